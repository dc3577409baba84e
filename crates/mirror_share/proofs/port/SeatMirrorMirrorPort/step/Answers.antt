use Rattle.std.proofs.Common.{refl}
use Rattle.sync_core.specs.Calls.{call_of}
use Rattle.mirror_share.proofs.Asking.{asked_on}
use Rattle.mirror_share.proofs.port.SeatMirrorMirrorPort.step.Goals as goal

pub returns-clause-called : goal.returns-clause-called
returns-clause-called g c =
    let by = c.step_by.ensures in record { refused = by.refused; stepped = by.stepped; carried = by.carried; done = record { commit = by.commit; head = by.head }; later = by.later; kept = by.kept; share = refl }

pub returns-clause-asked : goal.returns-clause-asked
returns-clause-asked g c = λ first calls h. asked_on first c.args.self.now _ calls (call_of c.args.call.now) c.step_by.result (returns-clause-called g c) c.step_by.ensures.fits c.step_by.ensures.seat h
