use Rattle.std.proofs.Common.{[], ◌∷◌, ◌++◌, ◌∙◌, ap, sym, append_assoc}
use Rattle.std.proofs.lemmas.Result.{err_from_is_err_and}
use Rattle.ra_wire.specs.Answers.{refused_in, refused_as}
use Rattle.ra_wire.proofs.Each.{each_pushed, not_each}
use Rattle.ra_wire.proofs.reply.all_refused.Goals as goal

pub loop-item-preserved : goal.loop-item-preserved
loop-item-preserved c = (
  each_pushed (refused_as) refused_in c.loop-item.yielded c.in-Some.item c.loop-item.all.items c.push.new.self.items c.in_ok-read.field-0 c.loop-item.invariant.0 c.in_ok-read.ensures.read c.in_ok-push.ensures.items,
  append_assoc c.loop-item.yielded (c.in-Some.item ∷ []) c.next.new.self.rest.items ∙ ap (λ l. c.loop-item.yielded ++ l) (sym c.in-Some.ensures.steps.0) ∙ c.loop-item.invariant.1,
)

pub returns-in_err-read-clause-none : goal.returns-in_err-read-clause-none
returns-in_err-read-clause-none c =
    let p = err_from_is_err_and c.from_residual.result c.from_residual.ensures.1 in
    rw (p.1, p.2)
    (not_each refused_in c.loop-item.yielded c.in-Some.item c.next.new.self.rest.items c.args.items.items c.in_err-read.field-0.0 (sym c.loop-item.invariant.1 ∙ ap (λ l. c.loop-item.yielded ++ l) c.in-Some.ensures.steps.0) c.in_err-read.ensures.none)
