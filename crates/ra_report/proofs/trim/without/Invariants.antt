use Rattle.std.proofs.Common.{◌≡◌, drop}
use Rattle.std.specs.FinMap as finite
use Rattle.ra_report.specs.Trimmed.{drops, without}
use Rattle.ra_report.proofs.trim.without.Given as goal

abbrev pub invariant-loop-limit : goal.invariant-loop-limit
invariant-loop-limit l =
    without (drops (finite.get l.full) (drop l.limit-index l.limits)) (finite.get l.top) ≡ without (drops (finite.get l.full) l.limits) (finite.get l.fn.tree)
