use Rattle.std.proofs.Common.{◌∙◌, sym, subst, arith}
use Rattle.std.proofs.lemmas.List.{nil_from_length}
use Rattle.std.specs.Vec.Iter.{into_iter_steps}
use Rattle.fleet_shares.specs.Closing.{brings_at}
use Rattle.fleet_shares.proofs.Telling.{told_step}
use Rattle.fleet_shares.proofs.told.tell_all.Goals as goal

pub loop-refusal-preserved : goal.loop-refusal-preserved
loop-refusal-preserved g c =
    let was = c.loop-refusal.invariant in
    let steps = c.in-Some.ensures.steps in
    let next = c.next-in-loop-refusal in
    let pushed = c.push_reserved.ensures.len in
    let room = c.push_reserved.ensures.capacity in (
      told_step c.args.stores.now (brings_at c.args.brings.now) _ _ _ _ _ _ _ _ c.in-Some.refusal _ _ _ _ next.result _ _ was.0 steps.0
          (λ none.
          let ends = subst (λ o. into_iter_steps c.loop-refusal.rest o next.new.self) none next.ensures.cases in
          (nil_from_length c.loop-refusal.rest.rest.items (sym c.loop-refusal.rest.rest.ok.0 ∙ ends.0), nil_from_length next.new.self.rest.items (sym next.new.self.rest.ok.0 ∙ ends.1)))
          next.ensures.items c.len-slot.ensures c.head_at.ensures c.stand-standing.ensures c.at.ensures c.tell_next.ensures c.push_reserved.ensures.items pushed,
      omega (arith, pushed, room, steps.1, was.1),
    )
