use Rattle.ra_wire.specs.Commands.{GetDir}
use Rattle.ra_serve.specs.Answers.{asked}
use Rattle.ra_serve.specs.Ports.{no_revision}
use Rattle.ra_serve.proofs.Exits.{tells_refusal, first_one}
use Rattle.ra_serve.proofs.Adding.{more_refused}
use Rattle.ra_serve.proofs.browse.get_dir.Goals as goal

pub returns-in-Err-clause-told : goal.returns-in-Err-clause-told
returns-in-Err-clause-told g c =
    tells_refusal g.P.RepoPort.repository g.P.RepoPort.refusals g.P.RepoPort.is_mirror g.W.Write.contents (GetDir c.args.path.now c.args.number c.args.props c.args.contents) c.args.port.now c.tree_asked.new.port c.args.out c.refuse.result c.in-Err.fault (λ x. no_revision x (asked x c.args.number)) c.refuse.ensures c.in-Err.ensures.refused (λ x e d. first_one _ _ _ d) c.tree_asked.ensures.stays.repository

pub returns-in-Err-clause-adds : goal.returns-in-Err-clause-adds
returns-in-Err-clause-adds g c = more_refused g.W.Write.contents c.args.out c.refuse.result c.in-Err.fault c.refuse.ensures
