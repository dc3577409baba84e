use Rattle.std.proofs.Common.{Result, Ok, Err, OnOk, IsErr, refl}
use Rattle.sync_core.specs.declared.fault.SyncFault.{SyncFault}
use Rattle.sync_core.specs.declared.reply.Reply.{Reply as Given}
use Rattle.mirror_share.proofs.share.MirrorShare.step_beside.Goals as goal

not_done : (result : Result Given SyncFault) (P : Type 0) → OnOk result P → (P → ⊥) → IsErr result
not_done (Ok r) P done apart = absurd (apart done)
not_done (Err f) P done apart = refl

pub returns-clause-alone : goal.returns-clause-alone
returns-clause-alone g c = λ held takes. not_done c.step-answer.result _ (c.step-answer.ensures.carried.takes takes) (λ some. c.is_alone.ensures held some)
