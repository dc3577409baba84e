use Rattle.tree_reports.specs.Reports.{content_at}
use Rattle.browse_wire.specs.Reports.{reported_as}
use Rattle.ra_report.specs.Reports.{source_denied, switched, with_source}
use Rattle.ra_report.proofs.Takes.{switch_comes}
use Rattle.ra_report.proofs.take.switch.Goals as goal

pub returns-in-Ok-clause-found : goal.returns-in-Ok-clause-found
returns-in-Ok-clause-found g c = λ x e.
    let f = c.in-Ok.ensures.found x e in
    let known = content_at c.args.report.now in
    let r = reported_as c.args.path.now in
    switch_comes (with_source x known r c.args.source) (content_at c.bring.new.report) c.args.switches.now.items c.push_switched.new.switches.items (switched c.args.path.now.path c.args.source) (source_denied x known r c.args.source) _ _ c.push_switched.result f.0 f.1 c.push_switched.ensures
