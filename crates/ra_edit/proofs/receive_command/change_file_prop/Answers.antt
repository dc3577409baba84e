use Rattle.ra_edit.proofs.Receiving.{named3}
use Rattle.ra_edit.proofs.receive_command.change_file_prop.Goals as goal

pub returns-clause-forms : goal.returns-clause-forms
returns-clause-forms c =
    let q = c.in_ok-name.ensures.read in
    let s = c.in_ok-value.ensures.read in
    λ rest. (q.item, s.item, q.is, s.is, named3 c.in_ok-token.ensures.read q.joined s.joined rest)
