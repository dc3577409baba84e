use Rattle.std.proofs.Common.{◌++◌, ◌∙◌, arith}
use Rattle.ra_denial.specs.Denials.{no_revision}
use Rattle.ra_browse.specs.Histories.{newest}
use Rattle.ra_browse.specs.Answers.{stood_denied}
use Rattle.ra_browse.proofs.Located.{first_stops, sought_comes}
use Rattle.ra_browse.proofs.location.seek.Goals as goal

pub returns-in-Ok-clause-found : goal.returns-in-Ok-clause-found
returns-in-Ok-clause-found g c = λ x e.
    let f = c.in-Ok.ensures.found x e in
    sought_comes x (c.args.base.now ++ c.args.path.now) c.args.peg c.args.numbers.now c.in-Ok.from _ _ _ c.seek_from.result c.stood.ensures.stays.goes.later f.0 f.1 (c.seek_from.ensures.found x (c.stood.ensures.stays.repository ∙ e))

pub returns-in-Err-clause-found : goal.returns-in-Err-clause-found
returns-in-Err-clause-found g c = λ x e.
    let now = g.P.RepoPort.refusals c.stood.new.port in
    first_stops (g.P.RepoPort.refusals c.args.port.now) now now (stood_denied x (c.args.base.now ++ c.args.path.now) c.args.peg) (no_revision x (newest c.args.peg c.args.numbers.now)) c.in-Err.stop (omega arith) (c.in-Err.ensures.found x e)
