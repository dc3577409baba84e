use Rattle.std.proofs.Common.{◌∙◌, ◌∷◌, ap, sym}
use Rattle.std.proofs.lemmas.Result.{err_from_is_err_and}
use Rattle.ra_item.specs.Items.{Text}
use Rattle.ra_edit.specs.Receiving.{left_of, AList, ASource}
use Rattle.ra_edit.proofs.NotRead.{as_other, source_is, no_source}
use Rattle.ra_edit.proofs.receive_command.Params.source.Goals as goal

pub returns-in_err-inner-clause-none : goal.returns-in_err-inner-clause-none
returns-in_err-inner-clause-none c =
    let p = err_from_is_err_and c.from_residual.result c.from_residual.ensures.1 in
    rw (p.1, p.2) (as_other AList ASource (left_of c.args.self.now) c.in_err-inner.field-0.0 source_is c.in_err-inner.ensures.none)

pub returns-in_err-path-clause-none : goal.returns-in_err-path-clause-none
returns-in_err-path-clause-none c =
    let p = err_from_is_err_and c.from_residual-in_err-path.result c.from_residual-in_err-path.ensures.1 in
    let rest = left_of c.text.new.self in
    rw (p.1, p.2) (no_source (left_of c.args.self.now) (left_of c.list.new.self) (left_of c.in_ok-inner.inner) rest c.as_slice.result.now c.without_slash.result.now c.in_err-path.field-0.0 c.in_ok-inner.ensures.read (c.in_ok-text.ensures.read ∙ ap (λ t. Text t ∷ rest) (sym c.as_slice.ensures.value)) c.without_slash.ensures.rest c.without_slash.ensures.bare c.in_err-path.ensures.none)
