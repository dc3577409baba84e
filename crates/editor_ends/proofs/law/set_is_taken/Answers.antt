use Rattle.dump_load.proofs.Within.{within_of}
use Rattle.editor_ends.proofs.Unrefused.{free-drive}
use Rattle.editor_ends.proofs.law.set_is_taken.Goals as goal

pub returns : goal.returns
returns c = λ none.
    let b = c.changes.ensures.bounded in
    free-drive c.args.trees.now c.args.set.now b.set.0 none c.has_root.ensures (within_of c.args.set.now b.small)
