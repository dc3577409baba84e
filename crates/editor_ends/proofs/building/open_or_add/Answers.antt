use Rattle.std.proofs.Common.{◌<◌, length, sym, ◌∙◌, subst, Ok, Err}
use Rattle.std.proofs.lemmas.Result.{err_from_is_err_and}
use Rattle.dump_load.specs.Changes.{IsNormal}
use Rattle.editor_ends.specs.Built.{Placed}
use Rattle.editor_ends.proofs.Opened.{open_new, refuse_new, late_again, refuse_again, open_again}
use Rattle.editor_ends.proofs.building.open_or_add.Goals as goal

pub returns-in_err-make-in-Err-clause-refused : goal.returns-in_err-make-in-Err-clause-refused
returns-in_err-make-in-Err-clause-refused c =
    let failed = err_from_is_err_and c.from_residual.result c.from_residual.ensures.1 in
    rw (failed.1, failed.2)
    (λ m. refuse_new c.args.trees.now c.args.tree.now c.args.tree.now c.args.changes.now.items c.in-Err.at c.args.change m (subst (λ z. IsNormal z → Placed z c.args.change.path (Err c.in-Err.at)) c.deref.ensures.value c.in-Err.ensures.placed m.normal) c.requires.known (sym c.is_root_settled.ensures ∙ c.if-is_root_settled.false) _ (c.in_err-make-in-Err.ensures.refused m.numbered))

pub returns-then-not-is_delete-clause-refused : goal.returns-then-not-is_delete-clause-refused
returns-then-not-is_delete-clause-refused c = λ m.
    late_again c.args.trees.now c.args.tree.now c.args.tree.now c.args.changes.now.items c.in-Ok.at c.args.change c.index.result.now m (subst (λ z. c.in-Ok.at < length z) c.deref.ensures.value c.in-Ok.ensures.found) c.index.ensures (subst (λ z. IsNormal z → Placed z c.args.change.path (Ok c.in-Ok.at)) c.deref.ensures.value c.in-Ok.ensures.placed m.normal) (sym c.is_delete.ensures ∙ c.if-not-is_delete.true) (sym c.is_root_settled.ensures ∙ c.if-is_root_settled.false)

pub returns-in_err-make-in-Ok-clause-refused : goal.returns-in_err-make-in-Ok-clause-refused
returns-in_err-make-in-Ok-clause-refused c =
    let failed = err_from_is_err_and c.from_residual-in_err-make-in-Ok.result c.from_residual-in_err-make-in-Ok.ensures.1 in
    rw (failed.1, failed.2)
    (λ m. refuse_again c.args.trees.now c.args.tree.now c.args.tree.now c.args.changes.now.items c.in-Ok.at c.args.change c.index.result.now m (subst (λ z. c.in-Ok.at < length z) c.deref.ensures.value c.in-Ok.ensures.found) c.index.ensures (subst (λ z. IsNormal z → Placed z c.args.change.path (Ok c.in-Ok.at)) c.deref.ensures.value c.in-Ok.ensures.placed m.normal) c.requires.known (sym c.is_delete.ensures ∙ c.if-not-is_delete.false) (sym c.is_root_settled.ensures ∙ c.if-is_root_settled.false) _ (c.in_err-make-in-Ok.ensures.refused m.numbered))

pub returns-in_ok-insert-in-Err-clause-begins : goal.returns-in_ok-insert-in-Err-clause-begins
returns-in_ok-insert-in-Err-clause-begins c = λ m.
    open_new c.args.trees.now c.args.tree.now c.make.new.tree c.args.changes.now.items c.in-Err.at c.args.change m (subst (λ z. IsNormal z → Placed z c.args.change.path (Err c.in-Err.at)) c.deref.ensures.value c.in-Err.ensures.placed m.normal) c.requires.known c.requires.whole c.requires.fresh (sym c.is_root_settled.ensures ∙ c.if-is_root_settled.false) c.in_ok-make-in-Err.ensures.made c.in_ok-make-in-Err.ensures.faultless c.insert.new.self.items c.in_ok-insert-in-Err.ensures.items

pub returns-in_ok-make-in-Ok-clause-begins : goal.returns-in_ok-make-in-Ok-clause-begins
returns-in_ok-make-in-Ok-clause-begins c = λ m.
    open_again c.args.trees.now c.args.tree.now c.make-in-Ok.new.tree c.args.changes.now.items c.in-Ok.at c.args.change c.index.result.now m (subst (λ z. c.in-Ok.at < length z) c.deref.ensures.value c.in-Ok.ensures.found) c.index.ensures (subst (λ z. IsNormal z → Placed z c.args.change.path (Ok c.in-Ok.at)) c.deref.ensures.value c.in-Ok.ensures.placed m.normal) c.requires.known (sym c.is_delete.ensures ∙ c.if-not-is_delete.false) c.requires.whole c.requires.fresh (sym c.is_root_settled.ensures ∙ c.if-is_root_settled.false) c.in_ok-make-in-Ok.ensures.made c.in_ok-make-in-Ok.ensures.faultless _ (Rattle.std.proofs.Common.ap (Rattle.std.specs.Prelude.slice_set c.args.changes.now.items c.in-Ok.at) c.replacing.ensures)
