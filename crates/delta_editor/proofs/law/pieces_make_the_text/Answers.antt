use Rattle.delta_editor.proofs.CallLemmas.{called-text}
use Rattle.delta_editor.proofs.law.pieces_make_the_text.Goals as goal

pub returns : goal.returns
returns c = called-text
