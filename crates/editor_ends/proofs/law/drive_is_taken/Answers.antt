use Rattle.editor_ends.proofs.Unrefused.{free-drive}
use Rattle.editor_ends.proofs.law.drive_is_taken.Goals as goal

pub returns : goal.returns
returns c = free-drive
