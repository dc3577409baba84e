use Rattle.std.proofs.Common.{arith, ◌++◌, subst}
use Rattle.ra_serve.specs.Answers.{node_in}
use Rattle.ra_denial.specs.Denials.{no_revision}
use Rattle.ra_denial.specs.Stops.{MayStop}
use Rattle.ra_browse.specs.Histories.{newer}
use Rattle.ra_browse.specs.Answers.{version_denied}
use Rattle.ra_browse.proofs.Located.{first_stops}
use Rattle.ra_browse.proofs.FileVersions.{file_comes}
use Rattle.ra_browse.proofs.versions.file_at.Goals as goal

pub returns-in-Ok-clause-found : goal.returns-in-Ok-clause-found
returns-in-Ok-clause-found g c = λ x e.
    let f = c.in-Ok.ensures.tree x e in
    file_comes x (c.args.base.now ++ c.args.path.now) c.args.first c.args.last c.newer-highest.result _ _ c.in-Ok.tree c.file_in.result f.0 f.1 c.newer-highest.ensures c.file_in.ensures

pub returns-in-Err-clause-found : goal.returns-in-Err-clause-found
returns-in-Err-clause-found g c = λ x e.
    let now = g.P.RepoPort.refusals c.tree.new.self in
    let q = c.args.base.now ++ c.args.path.now in
    let n = newer c.args.first c.args.last in
    first_stops (g.P.RepoPort.refusals c.args.port.now) now now (no_revision x n) (version_denied c.args.first c.args.last q (node_in x n q)) c.stopped.result (omega arith)
    (subst (λ k. MayStop (g.P.RepoPort.refusals c.args.port.now) now (no_revision x k) c.stopped.result) c.newer-highest.ensures (c.stopped.ensures x _ _ c.newer-highest.result (c.in-Err.ensures.refused x e)))
