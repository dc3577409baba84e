use Rattle.std.proofs.Common.{false, ◌≡◌, ◌<◌, length, Some, subst, ◌∙◌}
use Rattle.std.specs.FinMap.{get}
use Rattle.std.specs.Prelude.{IfSome}
use Rattle.std.specs.List.{slice_get}
use Rattle.node_base.specs.Tree.{changed_at}
use Rattle.node_base.specs.NodeEdits.{with_prop}
use Rattle.dump_load.specs.declared.change.Change.{Change}
use Rattle.dump_load.specs.Changes.{is_delete, IsNormal}
use Rattle.editor_ends.proofs.Parted.{props_at}
use Rattle.editor_ends.proofs.building.put_prop.Goals as goal

pub returns-clause-gives : goal.returns-clause-gives
returns-clause-gives c = λ trees m.
    props_at trees c.args.tree.now c.put_prop.new.self c.args.changes.now.items c.in-Some.at c.index_mut.result.now c.give_props.new.change c.args.path.now m (subst (λ z. c.in-Some.at < length z) c.deref.ensures.value c.in-Some.ensures.found) c.index_mut.ensures.value (subst (λ z. IsNormal z → (d : Change) → slice_get z c.in-Some.at ≡ Some d → d.path ≡ c.args.path.now) c.deref.ensures.value c.in-Some.ensures.placed) (subst (λ z. IfSome (slice_get z c.in-Some.at) (λ (d : Change). is_delete d.action ≡ false)) c.deref.ensures.value c.in-Some.ensures.stands) c.args.name.now _ c.give_props.ensures
    (λ q. c.in-Ok.ensures.ok q ∙ (λ j. changed_at (get c.args.tree.now) c.args.path.now (with_prop (c.in_ok-name.ensures j) (c.in_ok-value.ensures.value j)) q))
