use Rattle.std.proofs.Common.{ap}
use Rattle.std.specs.Prelude.{map}
use Rattle.browse_wire.specs.Asks.{ask_as}
use Rattle.browse_wire.specs.Reports.{report_as}
use Rattle.ra_denial.specs.Places.{place_as}
use Rattle.ra_reader.proofs.Exits.{by_taken, by_stop}
use Rattle.ra_serve.proofs.Adding.{adds_by}
use Rattle.ra_reader.proofs.Adding.{adds_stop}
use Rattle.ra_reader.proofs.take.take_order.Goals as goal

pub returns-in_ok-out-in-Ok-clause-told : goal.returns-in_ok-out-in-Ok-clause-told
returns-in_ok-out-in-Ok-clause-told g c = λ item k.
    by_taken g.W.Write.contents (place_as c.args.place.now) (ask_as c.args.command) (map report_as c.new-said.result.items) item c.args.out c.in_ok-out-in-Ok.out
    k c.requires.awaited c.in-Ok.ensures.0 c.in_ok-out-in-Ok.ensures (ap (map report_as) c.new-said.ensures.items)

pub returns-in_ok-out-in-Err-clause-told : goal.returns-in_ok-out-in-Err-clause-told
returns-in_ok-out-in-Err-clause-told g c = λ item k.
    by_stop g.W.Write.contents (place_as c.args.place.now) (ask_as c.args.command) c.in-Err.stop item c.args.out c.in_ok-out-in-Err.out
    k c.requires.awaited c.in-Err.ensures c.in_ok-out-in-Err.ensures

pub returns-in_ok-out-in-Ok-clause-adds : goal.returns-in_ok-out-in-Ok-clause-adds
returns-in_ok-out-in-Ok-clause-adds g c = adds_by g.W.Write.contents c.args.out c.in_ok-out-in-Ok.out _ c.in_ok-out-in-Ok.ensures

pub returns-in_ok-out-in-Err-clause-adds : goal.returns-in_ok-out-in-Err-clause-adds
returns-in_ok-out-in-Err-clause-adds g c = adds_stop g.W.Write.contents c.args.out c.in_ok-out-in-Err.out c.in-Err.stop c.in_ok-out-in-Err.ensures
