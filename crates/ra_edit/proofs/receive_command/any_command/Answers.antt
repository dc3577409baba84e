use Rattle.ra_edit.specs.Receiving.{left_of}
use Rattle.ra_edit.proofs.Receiving.{named0, given_up}
use Rattle.ra_edit.proofs.receive_command.any_command.Goals as goal

pub returns-in-CloseEdit-clause-forms : goal.returns-in-CloseEdit-clause-forms
returns-in-CloseEdit-clause-forms c = rw c.in-CloseEdit.is (λ rest. named0 (left_of c.args.params.now) rest)

pub returns-in-FinishReplay-clause-forms : goal.returns-in-FinishReplay-clause-forms
returns-in-FinishReplay-clause-forms c = rw c.in-FinishReplay.is (λ rest. named0 (left_of c.args.params.now) rest)

pub returns-in-AbortEdit-clause-forms : goal.returns-in-AbortEdit-clause-forms
returns-in-AbortEdit-clause-forms c = given_up c.args.name (left_of c.args.params.now) c.in-AbortEdit.is
