use Rattle.std.proofs.Common.{take}
use Rattle.std.specs.List.{AllByRecursion}
use Rattle.dump_load.specs.Bounds.{IsSmall}
use Rattle.dump_load.proofs.limits.changes_limits.Given as goal

abbrev pub invariant-loop-change : goal.invariant-loop-change
invariant-loop-change l = AllByRecursion IsSmall (take l.change-index l.changes)
