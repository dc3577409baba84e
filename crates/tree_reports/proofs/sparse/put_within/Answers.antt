use Rattle.std.proofs.Common.{◌≡◌, ◌++◌, sym, ◌∙◌}
use Rattle.std.specs.FinMap as map
use Rattle.node_base.specs.Path.{Path}
use Rattle.tree_reports.specs.Depths.{within}
use Rattle.tree_reports.proofs.Limits.{all_within_it, file_within, part_fits, put_same, same_place}
use Rattle.tree_reports.proofs.sparse.put_within.Goals as goal
use Rattle.tree_reports.proofs.sparse.put_within.Goals.{then-goes_below-via-then-goes_below, then-goes_below-via-else-goes_below+then-not-is_dir}

pub put_copy-requires-clause-small : goal.put_copy-requires-clause-small
put_copy-requires-clause-small c = same_place c.args.from.now c.args.path.now c.is_tree.ensures

pub returns-then-goes_below : goal.returns-then-goes_below
returns-then-goes_below c =
    let m = c.args.from.now in
    let p = c.args.path.now in
    let d = c.args.depth in
    let all : (q : Path) → map.get m (p ++ q) ≡ within d (λ r. map.get m (p ++ r)) q = elim c.then-goes_below.branch [
      | then-goes_below-via-then-goes_below w ↦ all_within_it d (λ r. map.get m (p ++ r)) (sym c.goes_below.ensures ∙ w.if-goes_below.true)
      | then-goes_below-via-else-goes_below+then-not-is_dir w ↦ file_within m p d c.is_tree.ensures (sym w.is_dir.ensures ∙ w.if-not-is_dir.true)
    ] in
    put_same (map.get c.args.top.now) (λ r. map.get m (p ++ r)) (within d (λ r. map.get m (p ++ r))) p c.put_copy.new.tree c.put_copy.result all c.put_copy.ensures

pub put_copy-requires-2-clause-small : goal.put_copy-requires-2-clause-small
put_copy-requires-2-clause-small c =
    part_fits c.args.from.now c.in_ok-part.part c.args.path.now c.root.result c.args.depth c.root.ensures c.is_tree.ensures c.in_ok-part.ensures
