use Rattle.std.proofs.Common.{◌≡◌, ◌++◌, drop}
use Rattle.ra_report.specs.Splits.{whole_split}
use Rattle.ra_report.specs.Switches.{lies}
use Rattle.ra_report.proofs.switched.lying.Given as goal

abbrev pub invariant-loop-switched : goal.invariant-loop-switched
invariant-loop-switched l =
    lies l.path (whole_split l.place) (drop l.switched-index l.switches) ≡ lies l.path (l.here ++ l.path) l.switches
