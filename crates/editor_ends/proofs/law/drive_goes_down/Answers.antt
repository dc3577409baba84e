use Rattle.editor_ends.proofs.Down.{drive_down}
use Rattle.editor_ends.proofs.law.drive_goes_down.Goals as goal

pub returns : goal.returns
returns c = drive_down
