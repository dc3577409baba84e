use Rattle.std.proofs.Common.{◌≡◌, sym, subst}
use Rattle.std.specs.Prelude.{map}
use Rattle.browse_wire.specs.Asks.{ask_as}
use Rattle.browse_wire.specs.Reports.{report_as, report_in}
use Rattle.ra_denial.specs.Places.{place_as}
use Rattle.ra_reader.specs.Standings.{ready_at, standing_at, Spoilt, said_in}
use Rattle.ra_reader.specs.Takings.{reporting_as, standing_as, phase_as, said_as}
use Rattle.ra_reader.proofs.Exits.{passes, by_more, by_given_up, by_spoiling}
use Rattle.ra_serve.proofs.Adding.{adds_by, adds_none}
use Rattle.ra_reader.proofs.take.take_report.Goals as goal

pub returns-in_ok-phase-in-Ok-More-clause-told : goal.returns-in_ok-phase-in-Ok-More-clause-told
returns-in_ok-phase-in-Ok-More-clause-told g c =
    passes g.P.RepoPort.repository g.P.RepoPort.refusals g.W.Write.contents (reporting_as c.args.place.now c.args.order) (standing_as c.args.place.now c.in_ok-phase-in-Ok-More.phase) c.args.item c.args.port.now c.args.port.now c.args.out c.args.out
    (by_more g.W.Write.contents (place_as c.args.place.now) (ask_as c.args.order.command) (map report_as c.args.order.said.items) (report_as c.in-Ok-More.report) (phase_as c.in_ok-phase-in-Ok-More.phase) c.args.item c.args.out
    (sym (subst (λ s. said_as s ≡ said_in (report_in c.args.item)) c.in-Ok-More.field-0-is c.in-Ok-More.ensures.told)) c.in_ok-phase-in-Ok-More.ensures)

pub returns-in-Ok-AtEnd-clause-told : goal.returns-in-Ok-AtEnd-clause-told
returns-in-Ok-AtEnd-clause-told g c = c.take_end.ensures.told c.args.item (sym (subst (λ s. said_as s ≡ said_in (report_in c.args.item)) c.in-Ok-AtEnd.field-0-is c.in-Ok-AtEnd.ensures.told))

pub returns-in_ok-out-in-Ok-GivenUp-clause-told : goal.returns-in_ok-out-in-Ok-GivenUp-clause-told
returns-in_ok-out-in-Ok-GivenUp-clause-told g c =
    passes g.P.RepoPort.repository g.P.RepoPort.refusals g.W.Write.contents (reporting_as c.args.place.now c.args.order) (ready_at (place_as c.args.place.now)) c.args.item c.args.port.now c.args.port.now c.args.out c.in_ok-out-in-Ok-GivenUp.out
    (by_given_up g.W.Write.contents (place_as c.args.place.now) (ask_as c.args.order.command) (map report_as c.args.order.said.items) c.args.item c.args.out c.in_ok-out-in-Ok-GivenUp.out
    (sym (subst (λ s. said_as s ≡ said_in (report_in c.args.item)) c.in-Ok-GivenUp.field-0-is c.in-Ok-GivenUp.ensures.told)) c.in_ok-out-in-Ok-GivenUp.ensures)

pub returns-in-Ok-Spoils-clause-told : goal.returns-in-Ok-Spoils-clause-told
returns-in-Ok-Spoils-clause-told g c =
    passes g.P.RepoPort.repository g.P.RepoPort.refusals g.W.Write.contents (reporting_as c.args.place.now c.args.order) (standing_at (place_as c.args.place.now) (Spoilt c.in-Ok-Spoils.why)) c.args.item c.args.port.now c.args.port.now c.args.out c.args.out
    (by_spoiling g.W.Write.contents (place_as c.args.place.now) (ask_as c.args.order.command) (map report_as c.args.order.said.items) c.in-Ok-Spoils.why c.args.item c.args.out (sym (subst (λ s. said_as s ≡ said_in (report_in c.args.item)) c.in-Ok-Spoils.field-0-is c.in-Ok-Spoils.ensures.told)))

pub returns-in_ok-phase-in-Ok-More-clause-adds : goal.returns-in_ok-phase-in-Ok-More-clause-adds
returns-in_ok-phase-in-Ok-More-clause-adds g c = adds_none g.W.Write.contents c.args.out

pub returns-in_ok-out-in-Ok-GivenUp-clause-adds : goal.returns-in_ok-out-in-Ok-GivenUp-clause-adds
returns-in_ok-out-in-Ok-GivenUp-clause-adds g c = adds_by g.W.Write.contents c.args.out c.in_ok-out-in-Ok-GivenUp.out _ c.in_ok-out-in-Ok-GivenUp.ensures

pub returns-in-Ok-Spoils-clause-adds : goal.returns-in-Ok-Spoils-clause-adds
returns-in-Ok-Spoils-clause-adds g c = adds_none g.W.Write.contents c.args.out
