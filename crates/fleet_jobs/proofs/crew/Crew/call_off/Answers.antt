use Rattle.std.proofs.Common.{◌∙◌}
use Rattle.fleet_jobs.proofs.Tickets.{put_none}
use Rattle.fleet_jobs.proofs.crew.Crew.call_off.Goals as goal

pub loop-i-preserved : goal.loop-i-preserved
loop-i-preserved g c =
    let was = c.loop-i.invariant in
    let kept = put_none _ _ c.put.result c.put.ensures.ok c.put.ensures.err in (
      c.put.ensures.queue ∙ was.0,
      c.put.ensures.same.0 ∙ was.1,
      c.put.ensures.same.1 ∙ was.2,
      kept.0 ∙ was.3,
      kept.1 ∙ was.4,
    )
