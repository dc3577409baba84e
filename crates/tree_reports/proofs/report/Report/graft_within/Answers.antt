use Rattle.std.proofs.Common.{rules, ◌≡◌, true, false, Option, Some, OnOk, is_some, sym, ap, subst, ◌∙◌}
use Rattle.std.specs.FinMap.{get}
use Rattle.node_base.specs.Path.{Path}
use Rattle.path_tree.specs.Copies.{copy_too_long}
use Rattle.tree_reports.specs.Applied.{Content}
use Rattle.tree_reports.specs.Reports.{content_at, placed}
use Rattle.tree_reports.proofs.Taken.{taken_fits, file_brought}
use Rattle.tree_reports.proofs.report.Report.graft_within.Goals as goal

pub returns-then-is_some-clause-ok : goal.returns-then-is_some-clause-ok
returns-then-is_some-clause-ok c =
    let from = c.args.from.now in
    let source = c.args.source.now in
    let there : get from source ≡ Some c.in-Some.node.now = sym (c.in-Some.ensures ∙ ap (get from) c.names.ensures.names) in
    let text : is_some c.in-Some.node.now.text ≡ true = search rules in
    subst (λ (brought : Path → Option Content). OnOk c.graft-then-is_some.result ((q : Path) → content_at c.graft-then-is_some.new.self q ≡ placed (content_at c.args.self.now) c.args.path.now brought q))
    (file_brought from source c.in-Some.node.now c.args.depth c.is_tree.ensures there text) c.graft-then-is_some.ensures.ok

pub graft-requires-2-clause-small : goal.graft-requires-2-clause-small
graft-requires-2-clause-small c =
    subst (λ top. copy_too_long c.in_ok-taken.taken top c.args.path.now ≡ false) (sym c.root.ensures)
    (taken_fits c.args.from.now c.in_ok-taken.taken c.args.source.now c.args.path.now c.args.depth c.requires.small c.in_ok-taken.ensures)
