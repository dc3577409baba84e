use Rattle.ra_edit.proofs.Receiving.{named2}
use Rattle.ra_edit.proofs.receive_command.close_file.Goals as goal

pub returns-clause-forms : goal.returns-clause-forms
returns-clause-forms c =
    let s = c.in_ok-sum.ensures.read in
    λ rest. (s.item, s.is, named2 c.in_ok-token.ensures.read s.joined rest)
