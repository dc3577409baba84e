use Rattle.std.proofs.Common.{sym, subst}
use Rattle.browse_wire.specs.Urls.{url_read}
use Rattle.ra_denial.specs.Places.{place_as, url_denied}
use Rattle.ra_denial.specs.Stops.{Denies}
use Rattle.ra_denial.proofs.Places.{path_made, path_refused}
use Rattle.ra_denial.proofs.place.path_at.Goals as goal

pub returns-in-Ok : goal.returns-in-Ok
returns-in-Ok c = path_made (place_as c.args.place.now) c.in-Ok.path (url_read c.args.url.now) c.in-Ok.ensures

pub returns-in-Err : goal.returns-in-Err
returns-in-Err c =
    let at = place_as c.args.place.now in
    subst (λ s. Denies (url_denied at (url_read c.args.url.now)) s) (sym c.stop_of.ensures) (path_refused at c.in-Err.fault (url_read c.args.url.now) c.in-Err.ensures)
