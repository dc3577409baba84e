use Rattle.ra_report.proofs.Switching.{one_put, put_stops, all_put}
use Rattle.ra_report.proofs.follow.put_all.Goals as goal

pub loop-switched-preserved : goal.loop-switched-preserved
loop-switched-preserved c =
    one_put c.args.whole.now c.loop-switched.tree c.put.new.tree c.args.tree.now c.args.switches.now c.loop-switched.switched-index c.switched-item.result c.args.switches.now c.loop-switched-test.true c.switched-item.is c.in-Ok.ensures.0 c.in-Ok.ensures.1 c.loop-switched.invariant

pub returns-in-Err : goal.returns-in-Err
returns-in-Err c =
    put_stops c.args.whole.now c.loop-switched.tree c.args.tree.now c.args.switches.now c.loop-switched.switched-index c.switched-item.result c.args.switches.now c.in-Err.stop c.loop-switched-test.true c.switched-item.is c.in-Err.ensures c.loop-switched.invariant

pub returns : goal.returns
returns c =
    all_put c.args.whole.now c.loop-switched.tree c.args.tree.now c.args.switches.now c.loop-switched.switched-index c.args.switches.now c.loop-switched-test.false c.loop-switched.invariant
