use Rattle.std.proofs.Common.{◌≡◌, map, take}
use Rattle.dump_load.specs.Records.{record_of}
use Rattle.dump_load.proofs.set.ChangeSet.to_records.Given as goal

abbrev pub invariant-loop-change : goal.invariant-loop-change
invariant-loop-change l = l.records.items ≡ map record_of (take l.change-index l.change-items)
