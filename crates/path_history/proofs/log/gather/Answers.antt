use Rattle.std.proofs.Common.{ap}
use Rattle.path_history.proofs.Gathering.{revisions, gathered_step}
use Rattle.path_history.proofs.log.gather.Goals as goal

pub loop-place-preserved : goal.loop-place-preserved
loop-place-preserved g c =
    gathered_step (g.S.Sets.sets c.args.sets.now) c.args.asked.now c.args.places.now c.loop-place.place-index c.place-item.result c.in_ok-copy.field-0 c.loop-place.numbers.items _ c.push_numbers.new.numbers.items c.in-Ok.told.items c.loop-place-test.true c.place-item.is c.in_ok-copy.ensures (ap revisions c.deref.ensures.value) c.in_ok-push_numbers-in-Ok.ensures c.in-Ok.ensures.told c.loop-place.invariant
