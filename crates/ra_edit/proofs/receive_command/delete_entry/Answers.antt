use Rattle.std.proofs.Common.{◌∙◌, Ok, ap, sym}
use Rattle.ra_edit.proofs.Receiving.{named3}
use Rattle.ra_edit.proofs.receive_command.delete_entry.Goals as goal

pub returns-clause-forms : goal.returns-clause-forms
returns-clause-forms c =
    let q = c.in_ok-path.ensures.read in
    let b = c.in_ok-base.ensures.read in
    λ rest. (q.item, b.item, (q.is.0, q.is.1 ∙ ap Ok (sym c.path-2.view_is), q.is.2), b.is, named3 q.joined b.joined c.in_ok-text.ensures.read rest)
