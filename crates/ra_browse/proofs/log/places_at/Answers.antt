use Rattle.std.proofs.Common.{arith}
use Rattle.ra_serve.specs.Ports.{tree_of}
use Rattle.ra_denial.specs.Denials.{no_revision}
use Rattle.ra_browse.specs.Answers.{paths_denied}
use Rattle.ra_browse.specs.Histories.{paths_below}
use Rattle.ra_browse.proofs.Located.{first_stops}
use Rattle.ra_browse.proofs.Logged.{places_there}
use Rattle.ra_browse.proofs.log.places_at.Goals as goal

pub returns-in-Ok-clause-found : goal.returns-in-Ok-clause-found
returns-in-Ok-clause-found g c = λ x e.
    let f = c.in-Ok.ensures.tree x e in
    places_there (λ v. v.items) x (paths_below c.args.base.now c.args.paths.now) c.args.number c.in-Ok.tree _ _ c.places_in.result f.0 f.1 c.places_in.ensures

pub returns-in-Err-clause-found : goal.returns-in-Err-clause-found
returns-in-Err-clause-found g c = λ x e.
    let now = g.P.RepoPort.refusals c.tree.new.self in
    first_stops (g.P.RepoPort.refusals c.args.port.now) now now (no_revision x c.args.number) (paths_denied (tree_of x c.args.number) (paths_below c.args.base.now c.args.paths.now)) c.stopped.result (omega arith) (c.stopped.ensures x _ _ c.args.number (c.in-Err.ensures.refused x e))
