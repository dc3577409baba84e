use Rattle.std.proofs.Common.{ap, sym, ◌∙◌}
use Rattle.ra_report.specs.Reports.{links_denied, switched}
use Rattle.ra_report.proofs.Takes.{passed_link}
use Rattle.ra_report.proofs.take.pass_link.Goals as goal

pub returns-in-Ok : goal.returns-in-Ok
returns-in-Ok c =
    passed_link _ _ c.args.switches.now.items c.push_switched.new.switches.items (switched c.args.path.now c.in-Ok.source) _ c.push_switched.result
    (ap links_denied (sym c.as_slice.ensures.value) ∙ sym c.links_denied.ensures ∙ c.in_default.is)
    c.in-Ok.ensures.0 (ap (switched c.args.path.now) c.in-Ok.ensures.1) c.push_switched.ensures
