use Rattle.std.proofs.Common.{◌≡◌, ◌∙◌, ◌+◌, length, ap, rules, arith}
use Rattle.fleet_jobs.specs.Queue.{known_by}
use Rattle.fleet_jobs.specs.declared.queue.Hand.{Hand}
use Rattle.fleet_jobs.proofs.Homes.{joined_by, back_more}
use Rattle.fleet_jobs.proofs.Moves.{settles}
use Rattle.fleet_jobs.proofs.crew.Crew.dismiss.Goals as goal

pub learn_as-requires-clause-rule : goal.learn_as-requires-clause-rule
learn_as-requires-clause-rule g c = settles _ _ c.loop-thread.invariant.2

pub loop-thread-preserved : goal.loop-thread-preserved
loop-thread-preserved g c =
    let was = c.loop-thread.invariant in
    let came = c.take_back.ensures.back in
    let first = was.4 0 c.in-Some.thread in
    let runner : c.in-Some.thread.promise.runner.value ≡ c.call_off.new.self.runner.value = grind rules in
    let seat : c.in-Some.thread.promise.seat ≡ length (known_by c.loop-thread.seat).back + 0 = grind rules in
    let more : length (known_by c.take_back.new.seat).back ≡ length (known_by c.loop-thread.seat).back + 1 = back_more _ _ _ _ _ _ came in (
      joined_by g.J.Runner.may_answer _ _ _ _ _ _ _ _ _ runner was.0 came seat,
      c.take_back.ensures.channel,
      ap (λ (v : Hand). v.gives) came.part_is ∙ was.2,
      grind (arith, rules),
      λ k d below. let h = was.4 (k + 1) d in (grind rules, grind rules, grind (arith, rules)),
    )
