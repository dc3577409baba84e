use Rattle.std.proofs.Common.{◌∙◌, ◌++◌, ◌∷◌, [], ap}
use Rattle.fleet_jobs.proofs.Homes.{answers_more}
use Rattle.fleet_jobs.proofs.worker.work.Goals as goal

pub loop-preserved : goal.loop-preserved
loop-preserved g c =
    let was = c.loop.invariant in (
      c.take.ensures.channel,
      c.take.ensures.same.0,
      c.take.ensures.same.1 ∙ was.2,
      answers_more _ _ _ _ _ _ _ c.in-Some-take.ensures.taken (c.push_reserved.ensures.items ∙ ap (λ os. os ++ c.run_one.result ∷ []) c.reserve.ensures.items) was.3 (c.run_one.ensures.order, c.run_one.ensures.answer),
    )
