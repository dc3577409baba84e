use Rattle.std.proofs.Common.{◌≡◌, ◌++◌}
use Rattle.repo_store.specs.Readings.{so_far}
use Rattle.repo_store.proofs.read.revision_of.Given as goal

abbrev pub invariant-loop-next : goal.invariant-loop-next
invariant-loop-next l = (so_far l.revision ≡ l.yielded) × (l.yielded ++ l.next-iterator.rest.items ≡ l.fn.records.items)
