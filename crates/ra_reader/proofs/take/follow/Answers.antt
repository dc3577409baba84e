use Rattle.std.proofs.Common.{◌∙◌, sym}
use Rattle.browse_wire.specs.Asks.{ask_as}
use Rattle.ra_denial.specs.Places.{place_as}
use Rattle.ra_reader.specs.Standings.{ready_at}
use Rattle.ra_reader.proofs.Exits.{passes_ok, by_answer}
use Rattle.ra_reader.proofs.take.follow.Goals as goal

pub returns-then-awaits_report-clause-told : goal.returns-then-awaits_report-clause-told
returns-then-awaits_report-clause-told g c = λ item k.
    passes_ok g.P.RepoPort.repository g.P.RepoPort.refusals g.W.Write.contents (ready_at (place_as c.args.place.now)) c.args.place.now item c.args.port.now c.args.port.now c.args.out c.take_order.result (c.take_order.ensures.told item k)

pub returns-clause-told : goal.returns-clause-told
returns-clause-told g c = λ item k.
    by_answer g.P.RepoPort.repository g.P.RepoPort.refusals g.W.Write.contents (place_as c.args.place.now) (place_as c.command_answer.new.place) (ask_as c.args.command) item c.args.port.now c.command_answer.new.port c.args.out c.in_ok-out.out
    k (sym c.awaits_report.ensures ∙ c.if-awaits_report.false) c.in_ok-out.ensures.told c.in_ok-out.ensures.moved
