use Rattle.std.proofs.Common.{[], ◌∷◌, ◌++◌, ◌∙◌, ap, sym, append_assoc}
use Rattle.std.proofs.lemmas.Result.{err_from_is_err_and}
use Rattle.ra_wire.proofs.Each.{each_pushed, not_each}
use Rattle.browse_wire.specs.Fields.{text_of}
use Rattle.browse_wire.proofs.fields.all_texts.Goals as goal

pub loop-item-preserved : goal.loop-item-preserved
loop-item-preserved c = (
  each_pushed (λ t. t.items) text_of c.loop-item.yielded c.in-Some.item c.loop-item.texts.items c.push.new.self.items c.in_ok-text_of.field-0 c.loop-item.invariant.0 c.in_ok-text_of.ensures.read c.in_ok-push.ensures.items,
  append_assoc c.loop-item.yielded (c.in-Some.item ∷ []) c.next.new.self.rest.items ∙ ap (λ l. c.loop-item.yielded ++ l) (sym c.in-Some.ensures.steps.0) ∙ c.loop-item.invariant.1,
)

pub returns-in_err-text_of-clause-none : goal.returns-in_err-text_of-clause-none
returns-in_err-text_of-clause-none c =
    let p = err_from_is_err_and c.from_residual.result c.from_residual.ensures.1 in
    rw (p.1, p.2)
    (not_each text_of c.loop-item.yielded c.in-Some.item c.next.new.self.rest.items c.args.items.items c.in_err-text_of.field-0.0 (sym c.loop-item.invariant.1 ∙ ap (λ l. c.loop-item.yielded ++ l) c.in-Some.ensures.steps.0) c.in_err-text_of.ensures.none)
