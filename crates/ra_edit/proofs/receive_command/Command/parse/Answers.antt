use Rattle.std.proofs.Common.{◌∙◌, sym}
use Rattle.std.proofs.lemmas.Result.{err_from_is_err_and}
use Rattle.ra_edit.specs.Receiving.{left_of}
use Rattle.ra_edit.proofs.NotRead.{no_params, no_name, no_command}
use Rattle.ra_edit.proofs.receive_command.Command.parse.Goals as goal

pub returns-in_err-params-clause-none : goal.returns-in_err-params-clause-none
returns-in_err-params-clause-none c =
    let r = c.from_residual-in_err-params in
    let p = err_from_is_err_and r.result r.ensures.1 in
    rw (p.1, p.2) (no_params c.args.item (left_of c.in_ok-parts.parts) (left_of c.word.new.self) c.in_ok-word.word.items c.in_err-params.field-0.0 c.in_ok-parts.ensures.read c.in_ok-word.ensures.read c.in_err-params.ensures.none)

pub returns-in-Some-clause-none : goal.returns-in-Some-clause-none
returns-in-Some-clause-none c =
    no_command c.any_command.result c.args.item (left_of c.in_ok-parts.parts) (left_of c.word.new.self) (left_of c.list.new.self) (left_of c.in_ok-params.params) c.in_ok-word.word.items c.in-Some.name c.in_ok-parts.ensures.read c.in_ok-word.ensures.read c.in_ok-params.ensures.read (sym c.as_slice.ensures.value ∙ c.in-Some.ensures.name) c.any_command.ensures.none

pub returns-clause-none : goal.returns-clause-none
returns-clause-none c =
    no_name c.args.item (left_of c.in_ok-parts.parts) (left_of c.word.new.self) (left_of c.list.new.self) (left_of c.in_ok-params.params) c.in_ok-word.word.items c.in_ok-parts.ensures.read c.in_ok-word.ensures.read c.in_ok-params.ensures.read (λ n e. c.any.ensures.none c.in-None.is n (c.as_slice.ensures.value ∙ e))
