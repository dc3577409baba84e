use Rattle.std.proofs.Common.{sym, ap, ◌∙◌}
use Rattle.std.specs.Vec.Iter.{into_iter_items}
use Rattle.fleet_jobs.specs.Places.{put_all}
use Rattle.fleet_jobs.proofs.places.settle_all.Goals as goal

pub loop-outcome-preserved : goal.loop-outcome-preserved
loop-outcome-preserved c =
    ap (λ ps. put_all ps (into_iter_items c.next.new.self)) c.settle.ensures
    ∙ (ap (put_all c.loop-outcome.places) (sym c.in-Some.ensures.steps.0) ∙ c.loop-outcome.invariant)
