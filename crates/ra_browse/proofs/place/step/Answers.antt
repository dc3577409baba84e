use Rattle.browse_wire.specs.Urls.{url_read}
use Rattle.ra_denial.specs.Places.{place_as}
use Rattle.ra_browse.proofs.Moves.{step_made, step_refused}
use Rattle.ra_browse.proofs.place.step.Goals as goal

pub returns-in-Ok : goal.returns-in-Ok
returns-in-Ok c = step_made (place_as c.args.place.now) c.in-Ok.path (url_read c.args.url.now) c.in-Ok.ensures

pub returns-in-Err : goal.returns-in-Err
returns-in-Err c = step_refused (place_as c.args.place.now) (url_read c.args.url.now) c.in-Err.stop c.in-Err.ensures
