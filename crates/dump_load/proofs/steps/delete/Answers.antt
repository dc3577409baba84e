use Rattle.std.proofs.Common.{[], None, ap, ◌∙◌}
use Rattle.std.proofs.lemmas.Result.{on_ok_weaker}
use Rattle.std.specs.FinMap.{get}
use Rattle.node_base.specs.Path.{same_path}
use Rattle.node_base.specs.Tree.{marked, grafted}
use Rattle.dump_load.proofs.Faultless.{below_root, delete_is, deletes_settle}
use Rattle.dump_load.proofs.steps.delete.Goals as goal

pub prune-requires : goal.prune-requires
prune-requires c =
    ap (λ p. same_path p []) c.names.ensures.names
    ∙ below_root c.args.trees.now (get c.args.tree.now) c.args.change.now c.requires.faultless (deletes_settle c.args.change.now.action c.requires.deletes)

pub returns : goal.returns
returns c =
    on_ok_weaker c.prune.result
    (λ h q. h q
    ∙ ap (λ p. grafted (marked (get c.args.tree.now) p c.next_number.result) p (λ _. None) q) c.names.ensures.names
    ∙ delete_is c.args.trees.now c.args.change.now c.next_number.result c.next_number.ensures (get c.args.tree.now) c.requires.deletes q)
    c.prune.ensures.ok
