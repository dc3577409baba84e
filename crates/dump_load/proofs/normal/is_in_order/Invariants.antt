use Rattle.std.proofs.Common.{take}
use Rattle.dump_load.specs.Changes.{IsInOrder}
use Rattle.dump_load.proofs.normal.is_in_order.Given as goal

abbrev pub invariant-loop-place : goal.invariant-loop-place
invariant-loop-place l = IsInOrder (take l.place l.changes)
