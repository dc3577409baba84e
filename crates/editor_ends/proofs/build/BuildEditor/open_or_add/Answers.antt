use Rattle.std.proofs.Common.{subst}
use Rattle.std.proofs.lemmas.Result.{err_from_is_err_and}
use Rattle.std.specs.FinMap as map
use Rattle.dump_load.specs.declared.change.Change.{Change}
use Rattle.editor_ends.specs.BuildFaults.{begin_fault}
use Rattle.editor_ends.specs.Built.{Made, IsFaultOr, is_late_in}
use Rattle.editor_ends.proofs.build.BuildEditor.open_or_add.Goals as goal

pub returns-in_err-open_or_add-clause-refused : goal.returns-in_err-open_or_add-clause-refused
returns-in_err-open_or_add-clause-refused c =
    let failed = err_from_is_err_and c.from_residual-in_err-open_or_add.result c.from_residual-in_err-open_or_add.ensures.1 in
    let trees = c.args.self.now.trees.now in
    let tree = c.args.self.now.tree in
    let s = c.args.self.now.changes.items in
    rw (failed.1, failed.2)
    (subst (λ (x : Change). Made trees tree s → IsFaultOr (begin_fault trees (map.get tree) (is_late_in s x) x) c.in_err-open_or_add.field-0.0) c.in_ok-change.ensures.begun c.in_err-open_or_add.ensures.refused)
