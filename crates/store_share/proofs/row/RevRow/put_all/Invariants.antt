use Rattle.std.proofs.Common.{◌≡◌, ◌<◌, ◌≤◌, ℕ, IsSome, None}
use Rattle.store_share.specs.Row.{cells_in, known_at, rev_at}
use Rattle.store_share.proofs.row.RevRow.put_all.Given as goal

abbrev pub invariant-loop-i : goal.invariant-loop-i
invariant-loop-i l =
    (cells_in l.notes ≡ cells_in l.initial.notes)
    × ((r : ℕ) → r < l.i → known_at l.notes r ≡ rev_at l.repo r)
    × ((r : ℕ) → r < l.i → IsSome (known_at l.notes r))
    × ((r : ℕ) → l.i ≤ r → known_at l.notes r ≡ None)
