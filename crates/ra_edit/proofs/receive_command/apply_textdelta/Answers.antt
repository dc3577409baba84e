use Rattle.ra_item.specs.Items.{row}
use Rattle.ra_edit.specs.Receiving.{left_of}
use Rattle.ra_edit.proofs.Receiving.{named2}
use Rattle.ra_edit.proofs.receive_command.apply_textdelta.Goals as goal

pub returns-clause-forms : goal.returns-clause-forms
returns-clause-forms c = λ rest. (row (left_of c.in_ok-_sum._sum), named2 c.in_ok-token.ensures.read c.in_ok-_sum.ensures.read rest)
