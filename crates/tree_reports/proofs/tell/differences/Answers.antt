use Rattle.std.proofs.Common.{Ok, Err, IfOk, ◌≡◌, Bool, List, sym, subst, is_some}
use Rattle.std.specs.List.{filter}
use Rattle.std.specs.FinMap.{get, entries}
use Rattle.node_base.specs.Path.{Path}
use Rattle.node_base.specs.Tree.{PathMap, IsTree, blocked}
use Rattle.tree_reports.specs.declared.depth.Depth.{Depth}
use Rattle.tree_reports.specs.Applied.{Make}
use Rattle.tree_reports.specs.Depths.{is_listed, within}
use Rattle.tree_reports.specs.Differences.{Told, AreDifferences, shown}
use Rattle.tree_reports.specs.Merged.{merged, telling}
use Rattle.tree_reports.proofs.Applies.{differences_make}
use Rattle.tree_reports.proofs.Shallow.{sorted_within, find_within, fronts_within, above_within}
use Rattle.tree_reports.proofs.Tells.{are_differences}
use Rattle.tree_reports.proofs.tell.differences.Goals as goal

-- what is told of two listings
abbrev listed : Bool → PathMap → PathMap → Depth → List (Path × Told)
listed opens old new d = telling opens (λ p. is_some (blocked (get new) p)) (merged (filter (is_listed d) (entries old)) (filter (is_listed d) (entries new)))

listed_differences : (opens : Bool) (old new : PathMap) (d : Depth) → AreDifferences opens (within d (get old)) (within d (get new)) (listed opens old new d)
listed_differences opens old new d =
    are_differences opens (within d (get old)) (within d (get new)) (λ p. is_some (blocked (get new) p)) (filter (is_listed d) (entries old)) (filter (is_listed d) (entries new))
    (sorted_within d old) (sorted_within d new) (find_within d old) (find_within d new) (above_within d (get old) (get new))

listed_make : (opens : Bool) (old new : PathMap) (d : Depth) → IsTree old → IsTree new → Make (listed opens old new d) (within d (get old)) (within d (get new))
listed_make opens old new d s t =
    differences_make opens (within d (get old)) (within d (get new)) (fronts_within d (get old) s.fronts) (fronts_within d (get new) t.fronts) (listed opens old new d) (listed_differences opens old new d)

pub returns-clause-told : goal.returns-clause-told
returns-clause-told c =
    let old = c.args.old.now in
    let new = c.args.new.now in
    let d = c.args.depth in
    let opens = c.args.opens in
    elim c.list_differences.result as (λ r. IfOk r (λ ds. shown ds.items ≡ listed opens old new d) → IfOk r (λ ds. AreDifferences opens (within d (get old)) (within d (get new)) (shown ds.items))) [
      | Ok ds ↦ λ e. subst (AreDifferences opens (within d (get old)) (within d (get new))) (sym e) (listed_differences opens old new d)
      | Err e ↦ λ h. h
    ] c.list_differences.ensures

pub returns-clause-make : goal.returns-clause-make
returns-clause-make c =
    let old = c.args.old.now in
    let new = c.args.new.now in
    let d = c.args.depth in
    let opens = c.args.opens in
    elim c.list_differences.result as (λ r. IfOk r (λ ds. shown ds.items ≡ listed opens old new d) → IfOk r (λ ds. Make (shown ds.items) (within d (get old)) (within d (get new)))) [
      | Ok ds ↦ λ e. subst (λ es. Make es (within d (get old)) (within d (get new))) (sym e) (listed_make opens old new d c.is_tree.ensures c.is_tree-2.ensures)
      | Err e ↦ λ h. h
    ] c.list_differences.ensures
