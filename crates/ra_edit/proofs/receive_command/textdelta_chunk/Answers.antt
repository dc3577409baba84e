use Rattle.ra_edit.proofs.Receiving.{named2}
use Rattle.ra_edit.proofs.receive_command.textdelta_chunk.Goals as goal

pub returns-clause-forms : goal.returns-clause-forms
returns-clause-forms c = named2 c.in_ok-token.ensures.read c.in_ok-text.ensures.read
