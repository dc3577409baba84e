use Rattle.std.proofs.Common.{false, ◌≡◌, ◌<◌, length, Some, subst}
use Rattle.std.specs.Prelude.{IfSome}
use Rattle.std.specs.List.{slice_get}
use Rattle.dump_load.specs.declared.change.Change.{Change}
use Rattle.dump_load.specs.Changes.{is_delete, IsNormal}
use Rattle.editor_ends.proofs.Parted.{started_at, answers_none}
use Rattle.editor_ends.proofs.building.start_text.Goals as goal

pub returns-clause-gives : goal.returns-clause-gives
returns-clause-gives c = λ trees m.
    started_at trees c.args.tree.now c.start_text.new.self c.args.changes.now.items c.in-Some.at c.index_mut.result.now c.give_text.new.change c.args.path.now m (subst (λ z. c.in-Some.at < length z) c.deref.ensures.value c.in-Some.ensures.found) c.index_mut.ensures.value (subst (λ z. IsNormal z → (d : Change) → slice_get z c.in-Some.at ≡ Some d → d.path ≡ c.args.path.now) c.deref.ensures.value c.in-Some.ensures.placed) (subst (λ z. IfSome (slice_get z c.in-Some.at) (λ (d : Change). is_delete d.action ≡ false)) c.deref.ensures.value c.in-Some.ensures.stands) c.in_ok-give_text.ensures (answers_none _ c.in-Ok.field-0 c.in-Ok.ensures.answer) c.in-Ok.ensures.ok
