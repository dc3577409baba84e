use Rattle.std.proofs.Common.{arith}
use Rattle.ra_serve.specs.Ports.{tree_of}
use Rattle.ra_denial.specs.Denials.{no_revision}
use Rattle.ra_report.specs.Reports.{begun_denied}
use Rattle.ra_report.proofs.Calls.{first_stops}
use Rattle.ra_report.proofs.Folders.{begun_comes}
use Rattle.ra_report.proofs.report.begun_at.Goals as goal

pub returns-in-Ok-clause-found : goal.returns-in-Ok-clause-found
returns-in-Ok-clause-found g c = λ x e.
    begun_comes x c.args.revision c.args.source.now c.args.target.now c.args.shown _ _ _ _ c.begun_with.result (c.in-Ok.ensures.there x e) (c.in-Ok.ensures.number x e) (c.in-Ok.ensures.tree x e) c.begun_with.ensures

pub returns-in-Err-clause-found : goal.returns-in-Err-clause-found
returns-in-Err-clause-found g c = λ x e.
    let now = g.P.RepoPort.refusals c.tree_asked.new.port in
    let n = c.args.revision in
    first_stops (g.P.RepoPort.refusals c.args.port.now) now now (no_revision x n) (begun_denied c.args.target.now c.args.shown (tree_of x n) c.args.source.now) c.stopped.result (omega arith) (c.stopped.ensures x _ _ n (c.in-Err.ensures.refused x e))
