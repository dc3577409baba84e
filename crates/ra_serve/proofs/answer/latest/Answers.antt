use Rattle.std.specs.Prelude.{None}
use Rattle.ra_wire.specs.Commands.{LatestRev}
use Rattle.ra_serve.proofs.Causes.{none_is_not}
use Rattle.ra_serve.proofs.Exits.{tells_refusal}
use Rattle.ra_serve.proofs.Adding.{more_refused}
use Rattle.ra_serve.proofs.answer.latest.Goals as goal

pub returns-in-Err-clause-told : goal.returns-in-Err-clause-told
returns-in-Err-clause-told g c =
    tells_refusal g.P.RepoPort.repository g.P.RepoPort.refusals g.P.RepoPort.is_mirror g.W.Write.contents LatestRev c.args.port.now c.latest.new.self c.args.out c.refuse.result c.in-Err.fault (λ x. None) c.refuse.ensures c.in-Err.ensures.refused (λ x e d. absurd (none_is_not _ d)) c.latest.ensures.stays.repository

pub returns-in-Err-clause-adds : goal.returns-in-Err-clause-adds
returns-in-Err-clause-adds g c = more_refused g.W.Write.contents c.args.out c.refuse.result c.in-Err.fault c.refuse.ensures
