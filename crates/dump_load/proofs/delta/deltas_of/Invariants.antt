use Rattle.std.proofs.Common.{◌≡◌, ◌++◌, drop}
use Rattle.dump_load.specs.Deltas.{deltas_of}
use Rattle.dump_load.proofs.delta.deltas_of.Given as goal

abbrev pub invariant-loop-stated : goal.invariant-loop-stated
invariant-loop-stated l = l.deltas.items ++ deltas_of (drop l.stated-index l.records) ≡ deltas_of l.records
