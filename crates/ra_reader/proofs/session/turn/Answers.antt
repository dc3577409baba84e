use Rattle.ra_reader.specs.Takings.{standing_as}
use Rattle.ra_reader.proofs.Exits.{turns_kept}
use Rattle.ra_reader.proofs.Adding.{adds_kept}
use Rattle.ra_reader.proofs.session.turn.Goals as goal

pub returns-in_ok-out-in-Ok-clause-told : goal.returns-in_ok-out-in-Ok-clause-told
returns-in_ok-out-in-Ok-clause-told g c =
    turns_kept g.P.RepoPort.repository g.P.RepoPort.refusals g.W.Write.contents (standing_as c.args.place.now c.args.phase) (standing_as c.take.new.place c.in-Ok.phase) c.args.item c.args.port.now c.take.new.port c.args.out c.in-Ok.out c.in_ok-out-in-Ok.out c.in-Ok.ensures.told c.in_ok-out-in-Ok.ensures.kept

pub returns-in_ok-out-in-Ok-clause-adds : goal.returns-in_ok-out-in-Ok-clause-adds
returns-in_ok-out-in-Ok-clause-adds g c = adds_kept g.W.Write.contents c.args.out c.in-Ok.out c.in_ok-out-in-Ok.out c.in-Ok.ensures.adds c.in_ok-out-in-Ok.ensures.kept
