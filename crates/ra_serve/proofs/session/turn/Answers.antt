use Rattle.ra_wire.specs.Reading.{command_in}
use Rattle.ra_serve.proofs.Exits.{replies_kept}
use Rattle.ra_serve.proofs.Adding.{more_kept}
use Rattle.ra_serve.proofs.session.turn.Goals as goal

pub returns-in-Ok-clause-told : goal.returns-in-Ok-clause-told
returns-in-Ok-clause-told g c = replies_kept g.P.RepoPort.repository g.P.RepoPort.refusals g.P.RepoPort.is_mirror g.W.Write.contents (command_in c.args.item) c.args.port.now c.answer.new.port c.args.out c.in-Ok.out c.flushed.result c.in-Ok.ensures.told c.flushed.ensures.kept

pub returns-in-Ok-clause-adds : goal.returns-in-Ok-clause-adds
returns-in-Ok-clause-adds g c = more_kept g.W.Write.contents c.args.out c.in-Ok.out c.flushed.result c.in-Ok.ensures.adds c.flushed.ensures.kept
