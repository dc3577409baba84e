use Rattle.ra_edit.proofs.Receiving.{named2}
use Rattle.ra_edit.proofs.receive_command.open_root.Goals as goal

pub returns-clause-forms : goal.returns-clause-forms
returns-clause-forms c =
    let b = c.in_ok-base.ensures.read in
    λ rest. (b.item, b.is, named2 b.joined c.in_ok-text.ensures.read rest)
