use Rattle.std.proofs.Common.{◌∙◌, Ok, ap, sym}
use Rattle.ra_edit.proofs.Receiving.{named4}
use Rattle.ra_edit.proofs.receive_command.open_dir.Goals as goal

pub returns-clause-forms : goal.returns-clause-forms
returns-clause-forms c =
    let q = c.in_ok-path.ensures.read in
    let s = c.in_ok-base.ensures.read in
    λ rest. (q.item, s.item, (q.is.0, q.is.1 ∙ ap Ok (sym c.path-2.view_is), q.is.2), s.is, named4 q.joined c.in_ok-up.ensures.read c.in_ok-token.ensures.read s.joined rest)
