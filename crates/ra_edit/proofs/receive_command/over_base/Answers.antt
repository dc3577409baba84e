use Rattle.ra_edit.proofs.receive_command.over_base.Goals as goal

pub returns-in-ApplyTextdelta-clause-forms : goal.returns-in-ApplyTextdelta-clause-forms
returns-in-ApplyTextdelta-clause-forms c = rw c.in-ApplyTextdelta.is c.text_over_base.ensures.forms
