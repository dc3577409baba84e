use Rattle.std.proofs.Common.{refl}
use Rattle.sync_core.proofs.told_need.need_fault.Goals as goal

pub returns-in-Ok : goal.returns-in-Ok
returns-in-Ok c = rw (c.in-LockHeld.is) (c.in-Ok.token, refl, c.in-Ok.ensures)

pub returns-in-Ok-lock_token : goal.returns-in-Ok-lock_token
returns-in-Ok-lock_token c = rw (c.in-HolderRunning.is) (c.in-Ok-lock_token.token, refl, c.in-Ok-lock_token.ensures)
