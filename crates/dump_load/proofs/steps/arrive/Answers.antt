use Rattle.std.proofs.Common.{◌∙◌}
use Rattle.std.proofs.lemmas.Result.{on_ok_weaker}
use Rattle.std.specs.FinMap.{get}
use Rattle.dump_load.proofs.Faultless.{brought_below_root, not_blocked, new_is}
use Rattle.dump_load.proofs.steps.arrive.Goals as goal

pub put_node-requires-clause-below_root : goal.put_node-requires-clause-below_root
put_node-requires-clause-below_root c = brought_below_root c.args.trees.now (get c.args.tree.now) c.args.change.now c.requires.faultless c.requires.brings

pub put_node-requires-clause-not_blocked : goal.put_node-requires-clause-not_blocked
put_node-requires-clause-not_blocked c = not_blocked c.args.trees.now (get c.args.tree.now) c.args.change.now c.requires.faultless

pub returns-in_ok-node-in-None : goal.returns-in_ok-node-in-None
returns-in_ok-node-in-None c =
    on_ok_weaker c.put_node.result
    (λ h q. h q ∙ new_is c.args.trees.now c.args.change.now c.next_number.result c.next_number.ensures (get c.args.tree.now) c.in_ok-node-in-None.node c.requires.brings c.in-None.is c.in_ok-node-in-None.ensures q)
    c.put_node.ensures.ok
