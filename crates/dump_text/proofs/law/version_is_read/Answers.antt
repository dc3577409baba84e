use Rattle.std.proofs.Common.{refl}
use Rattle.dump_text.proofs.law.version_is_read.Goals as goal

pub returns : goal.returns
returns c = λ bytes. refl
