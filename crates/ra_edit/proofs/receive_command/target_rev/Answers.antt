use Rattle.ra_edit.proofs.Receiving.{named1}
use Rattle.ra_edit.proofs.receive_command.target_rev.Goals as goal

pub returns-clause-forms : goal.returns-clause-forms
returns-clause-forms c =
    let n = c.in_ok-revision.ensures.read in
    λ rest. (n.0, named1 n.1 rest)
