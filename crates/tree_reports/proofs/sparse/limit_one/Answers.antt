use Rattle.std.proofs.Common.{sym, ◌∙◌}
use Rattle.tree_reports.proofs.Limits.{root_limited}
use Rattle.tree_reports.proofs.sparse.limit_one.Goals as goal

pub returns-then-is_root : goal.returns-then-is_root
returns-then-is_root c =
    root_limited c.args.tree c.args.whole.now c.args.limit.now c.part_of.result (sym c.is_root.ensures ∙ c.if-is_root.true) c.part_of.ensures
