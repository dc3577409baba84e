use Rattle.browse_wire.specs.Asks.{ask_as}
use Rattle.browse_wire.specs.AskReading.{ask_in}
use Rattle.ra_denial.specs.Places.{place_as}
use Rattle.ra_reader.specs.Standings.{ready_at}
use Rattle.ra_reader.proofs.Exits.{passes, by_fault, read_fault}
use Rattle.ra_serve.proofs.Adding.{adds_by}
use Rattle.ra_reader.proofs.take.take_command.Goals as goal

pub returns-in-Ok-clause-told : goal.returns-in-Ok-clause-told
returns-in-Ok-clause-told g c = c.follow.ensures.told c.args.item c.in-Ok.ensures.read

pub returns-in_ok-out-in-Err-clause-told : goal.returns-in_ok-out-in-Err-clause-told
returns-in_ok-out-in-Err-clause-told g c =
    passes g.P.RepoPort.repository g.P.RepoPort.refusals g.W.Write.contents (ready_at (place_as c.args.place.now)) (ready_at (place_as c.args.place.now)) c.args.item c.args.port.now c.args.port.now c.args.out c.in_ok-out-in-Err.out
    (by_fault g.W.Write.contents (place_as c.args.place.now) c.in-Err.fault c.in_ok-why-in-Err.why c.args.item c.args.out c.in_ok-out-in-Err.out
    (read_fault ask_as c.in-Err.fault (ask_in c.args.item) c.in_ok-why-in-Err.ensures.known c.in-Err.ensures.read) c.in_ok-why-in-Err.ensures.denial c.in_ok-out-in-Err.ensures)

pub returns-in_ok-out-in-Err-clause-adds : goal.returns-in_ok-out-in-Err-clause-adds
returns-in_ok-out-in-Err-clause-adds g c = adds_by g.W.Write.contents c.args.out c.in_ok-out-in-Err.out _ c.in_ok-out-in-Err.ensures
