use Rattle.std.proofs.Common.{◌≡◌, ◌++◌}
use Rattle.dump_load.specs.Records.{Combined}
use Rattle.dump_load.proofs.records.combine.Given as goal

abbrev pub invariant-loop-change : goal.invariant-loop-change
invariant-loop-change l = Combined l.yielded l.combined.items × (l.yielded ++ l.change-iterator.rest.items ≡ l.fn.changes.items)
