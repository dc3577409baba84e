use Rattle.std.proofs.Common.{◌≡◌, refl, sym, subst}
use Rattle.browse_wire.specs.Reports.{report_as, report_in}
use Rattle.ra_denial.specs.Places.{place_as}
use Rattle.ra_reader.specs.Standings.{Idle, AtEnd, GivenUp, said_in}
use Rattle.ra_reader.specs.Takings.{said_as}
use Rattle.ra_reader.proofs.Exits.{by_spoilt, by_spoilt_more, by_spoilt_again}
use Rattle.ra_reader.proofs.take.take_spoilt.Goals as goal

pub returns-in-Ok-More : goal.returns-in-Ok-More
returns-in-Ok-More g c = by_spoilt_more g.W.Write.contents (place_as c.args.place.now) c.args.why (report_as c.in-Ok-More._report) c.args.item c.args.out (sym (subst (λ s. said_as s ≡ said_in (report_in c.args.item)) c.in-Ok-More.field-0-is c.in-Ok-More.ensures.told))

pub returns-in_ok-out-in-Ok-AtEnd : goal.returns-in_ok-out-in-Ok-AtEnd
returns-in_ok-out-in-Ok-AtEnd g c = by_spoilt g.W.Write.contents (place_as c.args.place.now) c.args.why AtEnd Idle c.args.item c.args.out c.in_ok-out-in-Ok-AtEnd.out (sym (subst (λ s. said_as s ≡ said_in (report_in c.args.item)) c.in-Ok-AtEnd.field-0-is c.in-Ok-AtEnd.ensures.told)) c.in_ok-out-in-Ok-AtEnd.ensures refl

pub returns-in_ok-out-in-Ok-GivenUp : goal.returns-in_ok-out-in-Ok-GivenUp
returns-in_ok-out-in-Ok-GivenUp g c = by_spoilt g.W.Write.contents (place_as c.args.place.now) c.args.why GivenUp Idle c.args.item c.args.out c.in_ok-out-in-Ok-GivenUp.out (sym (subst (λ s. said_as s ≡ said_in (report_in c.args.item)) c.in-Ok-GivenUp.field-0-is c.in-Ok-GivenUp.ensures.told)) c.in_ok-out-in-Ok-GivenUp.ensures refl

pub returns-in-Ok-Spoils : goal.returns-in-Ok-Spoils
returns-in-Ok-Spoils g c = by_spoilt_again g.W.Write.contents (place_as c.args.place.now) c.args.why c.in-Ok-Spoils._other c.args.item c.args.out (sym (subst (λ s. said_as s ≡ said_in (report_in c.args.item)) c.in-Ok-Spoils.field-0-is c.in-Ok-Spoils.ensures.told))
