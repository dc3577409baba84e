use Rattle.std.proofs.Common.{refl}
use Rattle.mirror_share.proofs.Asking.{asked_still}
use Rattle.mirror_share.proofs.port.SeatMirrorMirrorPort.tree.Goals as goal

pub returns-in-Ok-clause-asked : goal.returns-in-Ok-clause-asked
returns-in-Ok-clause-asked g c = λ first calls h. asked_still first c.args.self.now _ calls refl refl c.found.ensures.later c.found.ensures.kept h

pub returns-in-Err-clause-asked : goal.returns-in-Err-clause-asked
returns-in-Err-clause-asked g c = λ first calls h. asked_still first c.args.self.now _ calls refl refl c.found.ensures.later c.found.ensures.kept h

pub returns-in-None-clause-asked : goal.returns-in-None-clause-asked
returns-in-None-clause-asked g c = λ first calls h. asked_still first c.args.self.now _ calls refl refl c.found.ensures.later c.found.ensures.kept h
