use Rattle.std.proofs.Common.{arith, ◌∙◌}
use Rattle.ra_log.specs.Entries.{log_as}
use Rattle.ra_serve.specs.Ports.{tree_of}
use Rattle.ra_denial.specs.Denials.{no_revision}
use Rattle.ra_browse.specs.Answers.{paths_denied}
use Rattle.ra_browse.specs.Histories.{newest_logged, paths_below}
use Rattle.ra_browse.proofs.Located.{first_stops}
use Rattle.ra_browse.proofs.Logged.{seek_comes}
use Rattle.ra_browse.proofs.log.seek.Goals as goal

pub returns-in-Ok-clause-found : goal.returns-in-Ok-clause-found
returns-in-Ok-clause-found g c = λ x e.
    seek_comes x c.args.base.now (log_as c.args.order.now) _ _ _ _ _ c.seek_between.result c.ends.ensures.stays.goes.later (c.in-Ok.ensures.first x e) (c.in-Ok.ensures.last x e) (c.seek_between.ensures.found x (c.ends.ensures.stays.repository ∙ e))

pub returns-in-Err-clause-found : goal.returns-in-Err-clause-found
returns-in-Err-clause-found g c = λ x e.
    let l = log_as c.args.order.now in
    let now = g.P.RepoPort.refusals c.ends.new.port in
    first_stops (g.P.RepoPort.refusals c.args.port.now) now now (no_revision x (newest_logged x l)) (paths_denied (tree_of x (newest_logged x l)) (paths_below c.args.base.now l.paths)) c.stopped.result (omega arith) (c.stopped.ensures x _ _ (newest_logged x l) (c.in-Err.ensures.refused x e))
