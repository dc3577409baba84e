use Rattle.ra_history.proofs.Located.{one_more}
use Rattle.ra_history.proofs.place.locations_of.Goals as goal

pub loop-number-preserved : goal.loop-number-preserved
loop-number-preserved g c =
    let p = c.in-Ok.ensures.told in
    one_more (g.S.Sets.sets c.args.sets.now) c.args.from.now c.args.numbers.now c.loop-number.number-index c.number-item.result c.loop-number.told.items c.push_location.new.told.items p.0 c.loop-number-test.true c.number-item.is c.loop-number.invariant p.1 p.2
