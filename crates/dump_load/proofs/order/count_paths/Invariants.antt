use Rattle.std.proofs.Common.{◌≡◌, ◌≤◌, take}
use Rattle.dump_load.specs.Records.{paths_named}
use Rattle.dump_load.proofs.order.count_paths.Given as goal

abbrev pub invariant-loop-place : goal.invariant-loop-place
invariant-loop-place l = (l.count ≡ paths_named (take l.place l.changes)) × (l.count ≤ l.place)
