use Rattle.std.proofs.Common.{subst}
use Rattle.std.specs.Prelude.{map}
use Rattle.browse_wire.specs.Asks.{ask_as}
use Rattle.browse_wire.specs.Reports.{report_as}
use Rattle.ra_denial.specs.Places.{place_as}
use Rattle.ra_report.specs.Finishing.{Finishes}
use Rattle.ra_reader.specs.Takings.{phase_as}
use Rattle.ra_reader.proofs.Exits.{by_end}
use Rattle.ra_reader.proofs.take.take_end.Goals as goal

pub returns-in-Ok-clause-told : goal.returns-in-Ok-clause-told
returns-in-Ok-clause-told g c = λ item k.
    by_end g.P.RepoPort.repository g.P.RepoPort.refusals g.W.Write.contents (place_as c.args.place.now) (ask_as c.args.order.command) (map report_as c.args.order.said.items) item c.args.port.now c.finish.new.port c.args.out c.in-Ok.out c.in-Ok.sent (phase_as c.behind_edit.result)
    k (subst (λ rs. Finishes g.P.RepoPort.repository g.P.RepoPort.refusals g.W.Write.contents (place_as c.args.place.now) (ask_as c.args.order.command) (map report_as rs) c.args.port.now c.finish.new.port c.args.out c.in-Ok.out c.in-Ok.sent) c.as_slice.ensures.value c.in-Ok.ensures.told)
    c.behind_edit.ensures
