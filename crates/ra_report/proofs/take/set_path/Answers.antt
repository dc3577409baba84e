use Rattle.tree_reports.specs.Reports.{content_at}
use Rattle.browse_wire.specs.Reports.{reported_as}
use Rattle.ra_denial.specs.Places.{place_as}
use Rattle.ra_report.specs.Reports.{having}
use Rattle.ra_report.proofs.Takes.{set_comes}
use Rattle.ra_report.proofs.take.set_path.Goals as goal

pub returns-in-Ok-clause-found : goal.returns-in-Ok-clause-found
returns-in-Ok-clause-found g c = λ x e.
    set_comes x (place_as c.args.place.now) (having (content_at c.args.report.now) c.args.switches.now) (reported_as c.args.path.now) c.in-Ok.source (content_at c.bring.new.report) _ _ c.bring.result c.in-Ok.ensures.0 c.in-Ok.ensures.1 (c.bring.ensures.found x e)
