use Rattle.std.proofs.lemmas.Result.{err_from_is_err_and}
use Rattle.editor_ends.proofs.Shows.{adds_end, refuses_end}
use Rattle.editor_ends.proofs.build.BuildEditorEditor.close_edit.Goals as goal

pub returns-in_err-set-clause-refused : goal.returns-in_err-set-clause-refused
returns-in_err-set-clause-refused c =
    let failed = err_from_is_err_and c.from_residual.result c.from_residual.ensures.1 in
    rw (failed.1, failed.2)
    (refuses_end c.args.self.trees.now c.args.self.tree c.args.self.changes.items c.in_err-set.field-0.0 (c.in_err-set.ensures.refused c.args.self.trees.now))

pub returns-clause-shown : goal.returns-clause-shown
returns-clause-shown c = adds_end c.args.self.trees.now c.args.self.tree c.args.self.changes.items c.in_ok-set.set (c.in_ok-set.ensures.set c.args.self.trees.now)
