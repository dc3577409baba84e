use Rattle.std.proofs.Common.{◌≡◌, [], ◌∷◌, map, None, Ok, Err, IfOk, sym, ap, subst, ◌∙◌}
use Rattle.std.specs.Option.{option_map}
use Rattle.std.specs.FinMap as finite
use Rattle.node_base.specs.Path.{Path}
use Rattle.dump_load.specs.Changes.{IsNormal}
use Rattle.dump_load.specs.Effect.{effect}
use Rattle.dump_load.specs.Faults.{fault}
use Rattle.tree_reports.specs.Applied.{content}
use Rattle.tree_reports.specs.Differences.{shown}
use Rattle.tree_changes.specs.Changes.{change_of, AreBetween}
use Rattle.tree_changes.proofs.Faultless.{no_fault_between}
use Rattle.tree_changes.proofs.Makes.{lent_between, effect_between}
use Rattle.tree_changes.proofs.Normal.{normal, paths_fit}
use Rattle.tree_changes.proofs.between.changes_between.Goals as goal

pub changes_of-requires : goal.changes_of-requires
changes_of-requires c =
    let opens = c.args.opens in
    let old = c.args.old.now in
    let new = c.args.new.now in
    let lent = c.as_slice.result.now in
    let told = lent_between opens old new c.in_ok-told.told.items lent c.as_slice.ensures.value c.in_ok-told.ensures.told in
    paths_fit opens old new c.is_tree.ensures c.is_tree-2.ensures (shown lent) told

pub returns-clause-between : goal.returns-clause-between
returns-clause-between c =
    let opens = c.args.opens in
    let old = c.args.old.now in
    let new = c.args.new.now in
    let lent = c.as_slice.result.now in
    let told = lent_between opens old new c.in_ok-told.told.items lent c.as_slice.ensures.value c.in_ok-told.ensures.told in
    elim c.changes_of.result as (λ r. IfOk r (λ cs. cs.items ≡ map change_of (shown lent)) → IfOk r (λ cs. AreBetween opens old new cs.items)) [
      | Ok cs ↦ λ e. (shown lent, told, e)
      | Err e ↦ λ h. h
    ] c.changes_of.ensures

pub returns-clause-normal : goal.returns-clause-normal
returns-clause-normal c =
    let opens = c.args.opens in
    let old = c.args.old.now in
    let new = c.args.new.now in
    let lent = c.as_slice.result.now in
    let told = lent_between opens old new c.in_ok-told.told.items lent c.as_slice.ensures.value c.in_ok-told.ensures.told in
    elim c.changes_of.result as (λ r. IfOk r (λ cs. cs.items ≡ map change_of (shown lent)) → IfOk r (λ cs. IsNormal cs.items)) [
      | Ok cs ↦ λ e. subst IsNormal (sym e) (normal opens (finite.get old) (finite.get new) c.is_tree-2.ensures.fronts (shown lent) told)
      | Err e ↦ λ h. h
    ] c.changes_of.ensures

pub returns-clause-effect : goal.returns-clause-effect
returns-clause-effect c =
    let opens = c.args.opens in
    let old = c.args.old.now in
    let new = c.args.new.now in
    let lent = c.as_slice.result.now in
    let told = lent_between opens old new c.in_ok-told.told.items lent c.as_slice.ensures.value c.in_ok-told.ensures.told in
    elim c.changes_of.result as (λ r. IfOk r (λ cs. cs.items ≡ map change_of (shown lent)) → IfOk r (λ cs. (q : Path) → option_map content (effect (old ∷ []) cs.items q) ≡ option_map content (finite.get new q))) [
      | Ok cs ↦ λ e. λ q. subst (λ l. option_map content (effect (old ∷ []) l q) ≡ option_map content (finite.get new q)) (sym e) (effect_between opens old new (shown lent) c.is_tree.ensures c.is_tree-2.ensures told q)
      | Err e ↦ λ h. h
    ] c.changes_of.ensures

pub returns-clause-faultless : goal.returns-clause-faultless
returns-clause-faultless c =
    let opens = c.args.opens in
    let old = c.args.old.now in
    let new = c.args.new.now in
    let lent = c.as_slice.result.now in
    let told = lent_between opens old new c.in_ok-told.told.items lent c.as_slice.ensures.value c.in_ok-told.ensures.told in
    elim c.changes_of.result as (λ r. IfOk r (λ cs. cs.items ≡ map change_of (shown lent)) → IfOk r (λ cs. fault (old ∷ []) cs.items ≡ None)) [
      | Ok cs ↦ λ e. ap (fault (old ∷ [])) e ∙ no_fault_between opens old new (shown lent) c.is_tree.ensures c.is_tree-2.ensures told
      | Err e ↦ λ h. h
    ] c.changes_of.ensures
