use Rattle.editor_ends.proofs.Given.{pieces_are}
use Rattle.editor_ends.proofs.law.pieces_of_a_text.Goals as goal

pub returns : goal.returns
returns c = pieces_are
