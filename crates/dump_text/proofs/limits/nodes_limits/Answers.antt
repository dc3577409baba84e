use Rattle.dump_text.proofs.Written.{kept_push}
use Rattle.dump_text.proofs.limits.nodes_limits.Goals as goal

pub loop-node-preserved : goal.loop-node-preserved
loop-node-preserved c = kept_push c.args.nodes.now c.loop-node.node-index c.node-item.result _ c.loop-node-test.true c.node-item.is c.loop-node.invariant c.node_limits.ensures
