use Rattle.std.proofs.Common.{◌++◌, arith}
use Rattle.ra_serve.specs.Answers.{node_in}
use Rattle.ra_denial.specs.Denials.{no_revision}
use Rattle.ra_browse.specs.Answers.{place_denied}
use Rattle.ra_browse.proofs.Located.{first_stops, place_comes}
use Rattle.ra_browse.proofs.location.stood.Goals as goal

pub returns-in-Ok-clause-found : goal.returns-in-Ok-clause-found
returns-in-Ok-clause-found g c = λ x e.
    place_comes x (c.args.base.now ++ c.args.path.now) c.args.number _ _ _ _ c.place_in.result (c.in-Ok.ensures.there x e) (c.in-Ok.ensures.number x e) (c.in-Ok.ensures.tree x e) c.place_in.ensures

pub returns-in-Err-clause-found : goal.returns-in-Err-clause-found
returns-in-Err-clause-found g c = λ x e.
    let now = g.P.RepoPort.refusals c.tree_asked.new.port in
    let p = c.args.base.now ++ c.args.path.now in
    first_stops (g.P.RepoPort.refusals c.args.port.now) now now (no_revision x c.args.number) (place_denied p (node_in x c.args.number p)) c.stopped.result (omega arith) (c.stopped.ensures x _ _ c.args.number (c.in-Err.ensures.refused x e))
