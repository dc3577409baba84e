use Rattle.std.proofs.Common.{◌≡◌, ◌∙◌, None, map, subst}
use Rattle.path_history.specs.Places.{place}
use Rattle.ra_log.specs.Entries.{log_as}
use Rattle.ra_denial.specs.Stops.{MayStop}
use Rattle.ra_browse.specs.Answers.{logged_denied}
use Rattle.ra_browse.specs.Histories.{paths_below}
use Rattle.ra_browse.proofs.Logged.{between_comes, between_stops}
use Rattle.ra_browse.proofs.log.seek_between.Goals as goal

pub returns-in-Ok-clause-found : goal.returns-in-Ok-clause-found
returns-in-Ok-clause-found g c = λ x e.
    let top = c.newer-highest.result in
    let base = c.args.base.now in
    let f = subst (λ ps. (logged_denied x top (paths_below base ps) ≡ None) × (c.in-Ok.places.items ≡ map (place top) (paths_below base ps))) c.as_slice.ensures.value (c.in-Ok.ensures.found x e) in
    between_comes x base (log_as c.args.order.now) _ top _ _ _ _ c.in-Ok.places.items c.with_rows.result c.places_at.ensures.stays.goes.later c.newer-highest.ensures f.0 f.1 (c.with_rows.ensures.found x (c.places_at.ensures.stays.repository ∙ e))

pub returns-in-Err-clause-found : goal.returns-in-Err-clause-found
returns-in-Err-clause-found g c = λ x e.
    between_stops x (paths_below c.args.base.now c.args.order.now.paths.items) c.newer-highest.result _ _ _ c.in-Err.stop c.newer-highest.ensures
    (subst (λ ps. MayStop (g.P.RepoPort.refusals c.args.port.now) (g.P.RepoPort.refusals c.places_at.new.port) (logged_denied x c.newer-highest.result (paths_below c.args.base.now ps)) c.in-Err.stop) c.as_slice.ensures.value (c.in-Err.ensures.found x e))
