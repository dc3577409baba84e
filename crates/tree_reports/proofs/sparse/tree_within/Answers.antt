use Rattle.std.proofs.Common.{sym, subst, ◌∙◌}
use Rattle.std.specs.FinMap as map
use Rattle.node_base.specs.Tree.{IsDirAt}
use Rattle.tree_reports.proofs.Limits.{shared_within}
use Rattle.tree_reports.proofs.sparse.tree_within.Goals as goal

pub returns-then-goes_below : goal.returns-then-goes_below
returns-then-goes_below c = shared_within c.args.tree.now c.args.depth c.share.result (sym c.goes_below.ensures ∙ c.if-goes_below.true) c.share.ensures

pub limited-requires : goal.limited-requires
limited-requires c = subst (IsDirAt (map.get c.args.tree.now)) (sym c.root.ensures) c.is_tree.ensures.root
