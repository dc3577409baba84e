use Rattle.std.proofs.Common.{◌≡◌, ◌≤◌, ◌+◌, ◌-◌, ℕ}
use Rattle.std.specs.Io.KnownBytes.{Appends}
use Rattle.repo_store.specs.Words.{repository_of}
use Rattle.store_engines.specs.Dumps.{revisions_text}
use Rattle.store_engines.proofs.dump.write_all.Given as goal

abbrev pub invariant-loop-number : goal.invariant-loop-number
invariant-loop-number g l =
    (written : ℕ)
    × (l.number ≡ l.fn.first + written)
    × (written ≤ l.fn.last + 1 - l.fn.first)
    × (l.number-end ≡ l.fn.last + 1)
    × Appends (g.O.Output.contents l.fn.output) (g.O.Output.contents l.output) (revisions_text (repository_of l.fn.store) l.fn.first written)
    × (g.O.Output.failures l.output ≡ g.O.Output.failures l.fn.output)
