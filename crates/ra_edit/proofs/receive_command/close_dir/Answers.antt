use Rattle.ra_edit.proofs.Receiving.{named1}
use Rattle.ra_edit.proofs.receive_command.close_dir.Goals as goal

pub returns-clause-forms : goal.returns-clause-forms
returns-clause-forms c = named1 c.in_ok-text.ensures.read
