use Rattle.std.proofs.Common.{◌≡◌, ◌++◌, true, is_none, rules}
use Rattle.std.specs.FinMap as map
use Rattle.tree_reports.specs.Sparse.{part_of}
use Rattle.tree_reports.specs.declared.sparse.Part.TheVariants.{LeftOut}
use Rattle.tree_reports.proofs.Limits.{bare_fits, none_left, put_same, same_place}
use Rattle.tree_reports.proofs.sparse.put_left_out.Goals as goal

pub put_copy-requires-clause-small : goal.put_copy-requires-clause-small
put_copy-requires-clause-small c = same_place c.args.from.now c.args.path.now c.is_tree.ensures

pub returns-then-is_none : goal.returns-then-is_none
returns-then-is_none c =
    let m = c.args.from.now in
    let p = c.args.path.now in
    let none : is_none (map.get m p) ≡ true = search rules in
    put_same (map.get c.args.top.now) (λ r. map.get m (p ++ r)) (part_of LeftOut (map.get m) p) p c.put_copy.new.tree c.put_copy.result (none_left m p c.is_tree.ensures none) c.put_copy.ensures

pub put_copy-requires-2-clause-small : goal.put_copy-requires-2-clause-small
put_copy-requires-2-clause-small c = bare_fits c.in_ok-bare.bare c.args.path.now c.root.result c.root.ensures c.names.ensures.small c.in_ok-bare.ensures
