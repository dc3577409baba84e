use Rattle.std.proofs.Common.{◌≡◌, ◌++◌}
use Rattle.dump_load.specs.Records.{Filling}
use Rattle.dump_load.proofs.fill.fill.Given as goal

abbrev pub invariant-loop-change : goal.invariant-loop-change
invariant-loop-change l = Filling l.trees l.deltas l.yielded l.filled.changes.items l.filled.tree l.filled.fault × (l.yielded ++ l.change-iterator.rest.items ≡ l.fn.changes.items)
