use Rattle.std.proofs.Common.{◌++◌, ◌∷◌, [], ◌∙◌, ap, subst, sym, arith, append_assoc}
use Rattle.std.specs.List.{AllZip}
use Rattle.std.specs.Vec.Iter.{into_iter_items}
use Rattle.std.proofs.lemmas.Slice.Zip.{all_zipped_more}
use Rattle.fleet_shares.specs.Given.{IsDue}
use Rattle.fleet_shares.proofs.Giving.{given_more}
use Rattle.fleet_shares.proofs.answers.give_all.Goals as goal

pub loop-order-preserved : goal.loop-order-preserved
loop-order-preserved g c =
    let was = c.loop-order.invariant in
    let done = was.0.0 ++ c.in-Some.order ∷ [] in
    let Dues = IsDue (g.J.Runner.may_answer c.args.own.now) in
    let steps = c.in-Some.ensures.steps in
    let counted = c.push_reserved.ensures.len in
    let room = c.push_reserved.ensures.capacity in (
      (
        done,
        append_assoc was.0.0 (c.in-Some.order ∷ []) (into_iter_items c.next.new.self) ∙ (ap (λ l. was.0.0 ++ l) (sym steps.0) ∙ was.0.1),
        subst (AllZip Dues done) (sym c.push_reserved.ensures.items) (all_zipped_more Dues was.0.0 c.loop-order.dues.items c.in-Some.order c.give_one.result was.0.2 c.give_one.ensures.due),
      ),
      given_more _ _ _ _ _ was.1 c.give_one.ensures.accepted c.push_reserved.ensures.items,
      c.give_one.ensures.same ∙ was.2,
      omega (arith, counted, steps.1, was.3),
      omega (arith, room, was.4),
    )
