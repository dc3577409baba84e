use Rattle.std.proofs.Common.{drop}
use Rattle.std.specs.FinMap as finite
use Rattle.ra_report.proofs.Switching.{ArePut}
use Rattle.ra_report.proofs.follow.put_all.Given as goal

abbrev pub invariant-loop-switched : goal.invariant-loop-switched
invariant-loop-switched l =
    ArePut (finite.get l.tree) l.whole (drop l.switched-index l.switches) (finite.get l.fn.tree) l.switches
