use Rattle.std.proofs.Common.{true, false, ◌≡◌, ◌<◌, length, sym, ◌∙◌, subst, ap, Ok, Err}
use Rattle.std.proofs.lemmas.Result.{err_from_is_err_and}
use Rattle.std.specs.Option.{option_map, option_map_or}
use Rattle.std.specs.List.{slice_get}
use Rattle.node_base.specs.Path.{is_front}
use Rattle.dump_load.specs.declared.change.Change.{Change}
use Rattle.dump_load.specs.Changes.{IsNormal}
use Rattle.delta_editor.specs.Faults.{refused}
use Rattle.editor_ends.specs.Built.{Placed}
use Rattle.editor_ends.proofs.Opened.{delete_new, late_delete, refuse_delete, late_again, refuse_gone, never_deleted}
use Rattle.editor_ends.proofs.building.delete.Goals as goal

pub returns-then-is_next_below-clause-refused : goal.returns-then-is_next_below-clause-refused
returns-then-is_next_below-clause-refused c = λ m.
    late_delete c.args.trees.now c.args.tree.now c.args.tree.now c.args.changes.now.items c.in-Err.at c.args.change m (subst (λ z. IsNormal z → Placed z c.args.change.path (Err c.in-Err.at)) c.deref.ensures.value c.in-Err.ensures.placed m.normal) c.requires.deletes (subst (λ z. option_map_or (λ (d : Change). is_front c.args.change.path d.path) (slice_get z c.in-Err.at) false ≡ true) c.deref-in-Err.ensures.value (sym c.is_next_below.ensures ∙ c.if-is_next_below.true)) (sym c.is_root_settled.ensures ∙ c.if-is_root_settled.false)

pub returns-in_err-make-in-Err-clause-refused : goal.returns-in_err-make-in-Err-clause-refused
returns-in_err-make-in-Err-clause-refused c =
    let failed = err_from_is_err_and c.from_residual.result c.from_residual.ensures.1 in
    rw (failed.1, failed.2)
    (λ m. refuse_delete c.args.trees.now c.args.tree.now c.args.tree.now c.args.changes.now.items c.in-Err.at c.args.change m (subst (λ z. IsNormal z → Placed z c.args.change.path (Err c.in-Err.at)) c.deref.ensures.value c.in-Err.ensures.placed m.normal) c.requires.deletes (subst (λ z. option_map_or (λ (d : Change). is_front c.args.change.path d.path) (slice_get z c.in-Err.at) false ≡ false) c.deref-in-Err.ensures.value (sym c.is_next_below.ensures ∙ c.if-is_next_below.false)) (sym c.is_root_settled.ensures ∙ c.if-is_root_settled.false) _ (c.in_err-make-in-Err.ensures.refused m.numbered))

pub returns-in-Err-clause-begins : goal.returns-in-Err-clause-begins
returns-in-Err-clause-begins c = λ m.
    delete_new c.args.trees.now c.args.tree.now c.make.new.tree c.args.changes.now.items c.in-Err.at c.args.change m (subst (λ z. IsNormal z → Placed z c.args.change.path (Err c.in-Err.at)) c.deref.ensures.value c.in-Err.ensures.placed m.normal) c.requires.deletes (subst (λ z. option_map_or (λ (d : Change). is_front c.args.change.path d.path) (slice_get z c.in-Err.at) false ≡ false) c.deref-in-Err.ensures.value (sym c.is_next_below.ensures ∙ c.if-is_next_below.false)) c.requires.whole c.requires.fresh (sym c.is_root_settled.ensures ∙ c.if-is_root_settled.false) c.in_ok-make-in-Err.ensures.made c.in_ok-make-in-Err.ensures.faultless c.insert.new.self.items c.in_ok-insert-in-Err.ensures.items

pub returns-then-not-is_delete-clause-refused : goal.returns-then-not-is_delete-clause-refused
returns-then-not-is_delete-clause-refused c = λ m.
    late_again c.args.trees.now c.args.tree.now c.args.tree.now c.args.changes.now.items c.in-Ok.at c.args.change c.index.result.now m (subst (λ z. c.in-Ok.at < length z) c.deref.ensures.value c.in-Ok.ensures.found) c.index.ensures (subst (λ z. IsNormal z → Placed z c.args.change.path (Ok c.in-Ok.at)) c.deref.ensures.value c.in-Ok.ensures.placed m.normal) (sym c.is_delete.ensures ∙ c.if-not-is_delete.true) (sym c.is_root_settled.ensures ∙ c.if-is_root_settled.false)

pub returns-in-Some-clause-refused : goal.returns-in-Some-clause-refused
returns-in-Some-clause-refused c = λ m.
    refuse_gone c.args.trees.now c.args.tree.now c.args.tree.now c.args.changes.now.items c.in-Ok.at c.args.change c.index.result.now m (subst (λ z. c.in-Ok.at < length z) c.deref.ensures.value c.in-Ok.ensures.found) c.index.ensures (subst (λ z. IsNormal z → Placed z c.args.change.path (Ok c.in-Ok.at)) c.deref.ensures.value c.in-Ok.ensures.placed m.normal) c.requires.deletes (sym c.is_delete.ensures ∙ c.if-not-is_delete.false) (sym c.is_root_settled.ensures ∙ c.if-is_root_settled.false) _ (ap (option_map refused) (sym c.fault_of.ensures ∙ c.in-Some.is) ∙ ap Rattle.std.proofs.Common.Some (sym c.from.ensures))

pub returns-clause-refused : goal.returns-clause-refused
returns-clause-refused c = λ m.
    absurd (never_deleted c.args.trees.now c.args.tree.now c.args.tree.now c.args.changes.now.items c.in-Ok.at c.args.change c.index.result.now m (subst (λ z. c.in-Ok.at < length z) c.deref.ensures.value c.in-Ok.ensures.found) c.index.ensures (subst (λ z. IsNormal z → Placed z c.args.change.path (Ok c.in-Ok.at)) c.deref.ensures.value c.in-Ok.ensures.placed m.normal) c.requires.deletes (sym c.is_delete.ensures ∙ c.if-not-is_delete.false) (sym c.fault_of.ensures ∙ c.in-None.is))
