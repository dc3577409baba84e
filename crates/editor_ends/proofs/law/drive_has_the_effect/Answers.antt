use Rattle.editor_ends.proofs.CallEffects.{called-drive}
use Rattle.editor_ends.proofs.law.drive_has_the_effect.Goals as goal

pub returns : goal.returns
returns c = λ trees s normal none q. λ i. called-drive trees s normal none i q
