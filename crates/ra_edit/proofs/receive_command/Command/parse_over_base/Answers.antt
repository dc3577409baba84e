use Rattle.std.proofs.Common.{◌∙◌, sym}
use Rattle.std.proofs.lemmas.Result.{err_from_is_err_and}
use Rattle.ra_edit.specs.Receiving.{left_of}
use Rattle.ra_edit.specs.declared.shape_fault.ShapeFault.TheVariants as shape
use Rattle.ra_edit.proofs.NotRead.{no_params, no_name, no_delta, no_delta_command, forms_whole}
use Rattle.ra_edit.proofs.receive_command.Command.parse_over_base.Goals as goal

pub returns-in_err-params-clause-none : goal.returns-in_err-params-clause-none
returns-in_err-params-clause-none c =
    let r = c.from_residual-in_err-params in
    let p = err_from_is_err_and r.result r.ensures.1 in
    rw (p.1, p.2) (no_delta c.args.item c.in_err-params.field-0.0 (no_params c.args.item (left_of c.in_ok-parts.parts) (left_of c.word.new.self) c.in_ok-word.word.items c.in_err-params.field-0.0 c.in_ok-parts.ensures.read c.in_ok-word.ensures.read c.in_err-params.ensures.none))

pub returns-in-Some-clause-forms : goal.returns-in-Some-clause-forms
returns-in-Some-clause-forms c =
    forms_whole (λ p. p.0) (λ p. p.1) c.over_base.result c.args.item (left_of c.in_ok-parts.parts) (left_of c.word.new.self) (left_of c.list.new.self) (left_of c.in_ok-params.params) c.in_ok-word.word.items c.in-Some.name c.in_ok-parts.ensures.read c.in_ok-word.ensures.read c.in_ok-params.ensures.read (sym c.as_slice.ensures.value ∙ c.in-Some.ensures.name) c.over_base.ensures.forms

pub returns-in-Some-clause-none : goal.returns-in-Some-clause-none
returns-in-Some-clause-none c =
    no_delta_command c.over_base.result c.args.item (left_of c.in_ok-parts.parts) (left_of c.word.new.self) (left_of c.list.new.self) (left_of c.in_ok-params.params) c.in_ok-word.word.items c.in-Some.name c.in_ok-parts.ensures.read c.in_ok-word.ensures.read c.in_ok-params.ensures.read (sym c.as_slice.ensures.value ∙ c.in-Some.ensures.name) c.over_base.ensures.none

pub returns-clause-none : goal.returns-clause-none
returns-clause-none c =
    no_delta c.args.item shape.BadShape (no_name c.args.item (left_of c.in_ok-parts.parts) (left_of c.word.new.self) (left_of c.list.new.self) (left_of c.in_ok-params.params) c.in_ok-word.word.items c.in_ok-parts.ensures.read c.in_ok-word.ensures.read c.in_ok-params.ensures.read (λ n e. c.any.ensures.none c.in-None.is n (c.as_slice.ensures.value ∙ e)))
