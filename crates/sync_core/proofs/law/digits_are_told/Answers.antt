use Rattle.sync_core.proofs.Digits.{digits-are-told}
use Rattle.sync_core.proofs.law.digits_are_told.Goals as goal

pub returns : goal.returns
returns c = digits-are-told
