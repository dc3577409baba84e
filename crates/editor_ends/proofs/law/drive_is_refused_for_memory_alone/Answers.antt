use Rattle.editor_ends.proofs.Memory.{memory_alone}
use Rattle.editor_ends.proofs.law.drive_is_refused_for_memory_alone.Goals as goal

pub returns : goal.returns
returns c = memory_alone
