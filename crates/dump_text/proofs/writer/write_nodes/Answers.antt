use Rattle.std.proofs.Common.{◌+◌, ◌++◌, take}
use Rattle.std.specs.List.{flat_map}
use Rattle.dump_text.specs.Canon.{canon_node}
use Rattle.dump_text.proofs.Writes.{join, wrote_as, mapped_more}
use Rattle.dump_text.proofs.writer.write_nodes.Goals as goal

pub loop-node-preserved : goal.loop-node-preserved
loop-node-preserved c =
    let before = flat_map canon_node (take c.loop-node.node-index c.args.nodes.now) in
    wrote_as c.args.out.now c.write_node.new.out (before ++ canon_node c.node-item.result) (flat_map canon_node (take (c.loop-node.node-index + 1) c.args.nodes.now))
    (mapped_more canon_node c.args.nodes.now c.loop-node.node-index c.node-item.result _ c.loop-node-test.true c.node-item.is)
    (join c.args.out.now c.loop-node.out c.write_node.new.out before (canon_node c.node-item.result) c.loop-node.invariant c.write_node.ensures)
