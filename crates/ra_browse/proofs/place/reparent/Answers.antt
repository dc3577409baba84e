use Rattle.browse_wire.specs.Urls.{url_read}
use Rattle.ra_denial.specs.Places.{place_as}
use Rattle.ra_browse.proofs.Moves.{step_told, stops_told, stops_stay}
use Rattle.ra_browse.proofs.place.reparent.Goals as goal

pub returns-in_ok-write_done-in-Ok-clause-told : goal.returns-in_ok-write_done-in-Ok-clause-told
returns-in_ok-write_done-in-Ok-clause-told g c = step_told (place_as c.args.place.now) (place_as c.step.new.place) (url_read c.args.url.now) (g.W.Write.contents c.args.out) (g.W.Write.contents c.write_done.new.out) c.in-Ok.ensures c.in_ok-write_done-in-Ok.ensures

pub returns-in-Err-clause-told : goal.returns-in-Err-clause-told
returns-in-Err-clause-told g c = stops_told g.W.Write.contents (place_as c.args.place.now) (place_as c.step.new.place) (url_read c.args.url.now) c.in-Err.stop c.args.out c.tell.result c.in-Err.ensures c.tell.ensures

pub returns-in-Err-clause-moved : goal.returns-in-Err-clause-moved
returns-in-Err-clause-moved g c = stops_stay g.W.Write.contents (place_as c.args.place.now) (place_as c.step.new.place) (url_read c.args.url.now) c.in-Err.stop c.args.out c.tell.result c.in-Err.ensures c.tell.ensures
