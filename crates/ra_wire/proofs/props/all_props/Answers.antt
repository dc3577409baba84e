use Rattle.std.proofs.Common.{[], ◌∷◌, ◌++◌, ◌∙◌, ap, sym, append_assoc}
use Rattle.std.proofs.lemmas.Result.{err_from_is_err_and}
use Rattle.std.specs.FinMap as finite
use Rattle.ra_wire.proofs.Each.{properties_more}
use Rattle.ra_wire.proofs.Limits.{not_properties}
use Rattle.ra_wire.proofs.props.all_props.Goals as goal

pub loop-item-preserved : goal.loop-item-preserved
loop-item-preserved c = (
  properties_more finite.empty c.loop-item.yielded c.in-Some.item c.loop-item.props c.put_next.new.props c.loop-item.invariant.0 c.in_ok-put_next.ensures.read,
  append_assoc c.loop-item.yielded (c.in-Some.item ∷ []) c.next.new.self.rest.items ∙ ap (λ l. c.loop-item.yielded ++ l) (sym c.in-Some.ensures.steps.0) ∙ c.loop-item.invariant.1,
)

pub returns-in_err-put_next-clause-none : goal.returns-in_err-put_next-clause-none
returns-in_err-put_next-clause-none c =
    let p = err_from_is_err_and c.from_residual.result c.from_residual.ensures.1 in
    rw (p.1, p.2)
    (not_properties finite.empty c.loop-item.yielded c.in-Some.item c.next.new.self.rest.items c.args.items.items c.loop-item.props c.in_err-put_next.field-0.0 (sym c.loop-item.invariant.1 ∙ ap (λ l. c.loop-item.yielded ++ l) c.in-Some.ensures.steps.0) c.loop-item.invariant.0 c.in_err-put_next.ensures.none)
