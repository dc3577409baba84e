use Rattle.std.proofs.Common.{sym, ◌∙◌}
use Rattle.tree_reports.specs.Reports.{content_at}
use Rattle.ra_denial.specs.Places.{place_as}
use Rattle.ra_report.specs.Reports.{having}
use Rattle.ra_report.proofs.Takes.{heeded_as, passed_over}
use Rattle.ra_report.proofs.take.heed.Goals as goal

pub returns-then-is_void-clause-found : goal.returns-then-is_void-clause-found
returns-then-is_void-clause-found g c = λ x e.
    passed_over x (place_as c.args.place.now) c.args.target.now (content_at c.args.report.now) c.args.switches.now.items c.pass_over.new.switches.items c.args.command.now _ c.pass_over.result (sym c.is_void.ensures ∙ c.if-is_void.true) c.pass_over.ensures

pub returns-clause-found : goal.returns-clause-found
returns-clause-found g c = λ x e.
    heeded_as x (place_as c.args.place.now) c.args.target.now (having (content_at c.args.report.now) c.args.switches.now.items) (having (content_at c.take.new.report) c.take.new.switches.items) c.args.command.now _ _ c.take.result (sym c.is_void.ensures ∙ c.if-is_void.false) (c.take.ensures.found x e)
