use Rattle.ra_edit.proofs.NotRead.{text_with_sum}
use Rattle.ra_edit.proofs.receive_command.text_over_base.Goals as goal

pub returns-clause-forms : goal.returns-clause-forms
returns-clause-forms c = text_with_sum c.in_ok-token.token c.in_ok-sum.sum _ _ _ c.in_ok-token.ensures.read c.in_ok-sum.ensures.read
