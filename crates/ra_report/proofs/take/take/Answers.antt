use Rattle.tree_reports.specs.Reports.{content_at}
use Rattle.ra_denial.specs.Places.{place_as}
use Rattle.ra_report.specs.Reports.{having}
use Rattle.ra_report.proofs.Takes.{delete_comes, taken_as}
use Rattle.ra_report.proofs.take.take.Goals as goal

pub returns-in-DeletePath-clause-found : goal.returns-in-DeletePath-clause-found
returns-in-DeletePath-clause-found g c = λ x e.
    let at = place_as c.args.place.now in
    let old = having (content_at c.args.report.now) c.args.switches.now.items in
    let new = content_at c.delete_path.new.report in
    taken_as x at old (having new c.args.switches.now.items) c.args.command.now _ _ _ c.delete_path.result c.in-DeletePath.is (delete_comes x at old _ new _ _ c.delete_path.result c.delete_path.ensures)
