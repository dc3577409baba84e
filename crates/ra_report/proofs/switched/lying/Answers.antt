use Rattle.std.proofs.Common.{◌++◌}
use Rattle.ra_report.specs.Splits.{whole_split}
use Rattle.ra_report.specs.Switches.{lies}
use Rattle.ra_report.proofs.Switching.{one_lies, all_lie}
use Rattle.ra_report.proofs.switched.lying.Goals as goal

pub loop-switched-preserved : goal.loop-switched-preserved
loop-switched-preserved c =
    one_lies c.args.path.now (whole_split c.loop-switched.place) (whole_split c.nearer-place.result) (lies c.args.path.now (c.args.here.now ++ c.args.path.now) c.args.switches.now) c.args.switches.now c.loop-switched.switched-index c.switched-item.result c.loop-switched-test.true c.switched-item.is c.nearer-place.ensures c.loop-switched.invariant

pub returns : goal.returns
returns c =
    all_lie c.args.path.now (whole_split c.loop-switched.place) (lies c.args.path.now (c.args.here.now ++ c.args.path.now) c.args.switches.now) c.args.switches.now c.loop-switched.switched-index c.path_below.result c.loop-switched-test.false c.loop-switched.invariant c.path_below.ensures
