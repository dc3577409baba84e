use Rattle.std.proofs.Common.{◌++◌, arith, subst, sym, ◌∙◌}
use Rattle.std.proofs.lemmas.List.{nil_from_length}
use Rattle.std.specs.Vec.Iter.{into_iter_items}
use Rattle.fleet_shares.specs.Given.{AreAnswers}
use Rattle.fleet_shares.proofs.Giving.{paid_all, paid_more}
use Rattle.fleet_shares.proofs.answers.gather.Goals as goal

pub loop-due-init : goal.loop-due-init
loop-due-init g c =
    let room = c.requires in
    (λ tail h. subst (λ as'. AreAnswers (g.J.Runner.may_answer c.args.own.now) (into_iter_items c.into_iter-due-iterator.result) (into_iter_items c.into_iter-rest.result) (as' ++ tail)) (sym room.0) h, search (arith))

pub loop-due-preserved : goal.loop-due-preserved
loop-due-preserved g c =
    let was = c.loop-due.invariant in
    let steps = c.in-Some.ensures.steps in
    let pushed = c.push_reserved.ensures.len in
    let room = c.push_reserved.ensures.capacity in (
      paid_more (g.J.Runner.may_answer c.args.own.now) _ _ _ _ _ _ _ _ c.in-Some.due c.settled.result c.pay.result was.0 steps.0 c.settled.ensures.due c.settled.ensures.rest c.pay.ensures c.push_reserved.ensures.items,
      omega (arith, pushed, room, steps.1, was.1),
    )

pub returns : goal.returns
returns g c =
    let may = g.J.Runner.may_answer c.args.own.now in
    let gone = nil_from_length c.loop-due.due-iterator.rest.items (sym c.loop-due.due-iterator.rest.ok.0 ∙ c.in-None.ensures.steps.0) in
    subst (λ ds. AreAnswers may ds c.args.outcomes.items c.loop-due.answers.items) c.into_iter-due-iterator.ensures.into_iter_gives.0
    (subst (λ xs. AreAnswers may (into_iter_items c.into_iter-due-iterator.result) xs c.loop-due.answers.items) c.into_iter-rest.ensures.rest (paid_all may _ _ _ _ _ c.loop-due.invariant.0 gone))
