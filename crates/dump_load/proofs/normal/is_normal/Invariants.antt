use Rattle.std.proofs.Common.{take}
use Rattle.dump_load.specs.Changes.{IsNormal}
use Rattle.dump_load.proofs.normal.is_normal.Given as goal

abbrev pub invariant-loop-place : goal.invariant-loop-place
invariant-loop-place l = IsNormal (take l.place l.changes)
