use Rattle.editor_ends.proofs.Nested.{nested-drive}
use Rattle.editor_ends.proofs.law.drive_is_nested.Goals as goal

pub returns : goal.returns
returns c = nested-drive
