use Rattle.std.proofs.Common.{sym, ap, ◌∙◌}
use Rattle.std.specs.List.{filter}
use Rattle.std.specs.FinMap.{entries}
use Rattle.tree_reports.specs.Depths.{is_listed, goes_below}
use Rattle.tree_reports.proofs.Shallow.{all_listed, root_alone, shallow, if_ok_same}
use Rattle.tree_reports.proofs.depth.list_within.Goals as goal

pub returns-in-Infinity : goal.returns-in-Infinity
returns-in-Infinity c = if_ok_same c.list.result _ _ (all_listed (entries c.args.tree.now) ∙ ap (λ d. filter (is_listed d) (entries c.args.tree.now)) (sym c.in-Infinity.is)) c.list.ensures

pub returns-in-Empty : goal.returns-in-Empty
returns-in-Empty c = if_ok_same c.list_root.result _ _ (root_alone c.args.tree.now ∙ ap (λ d. filter (is_listed d) (entries c.args.tree.now)) (sym c.in-Empty.is)) c.list_root.ensures

pub returns-in-Files : goal.returns-in-Files
returns-in-Files c = if_ok_same c.list_shallow.result _ _ (shallow c.args.depth c.args.tree.now (ap goes_below c.in-Files.is)) c.list_shallow.ensures

pub returns-in-Immediates : goal.returns-in-Immediates
returns-in-Immediates c = if_ok_same c.list_shallow-in-Immediates.result _ _ (shallow c.args.depth c.args.tree.now (ap goes_below c.in-Immediates.is)) c.list_shallow-in-Immediates.ensures
