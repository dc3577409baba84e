use Rattle.std.proofs.Common.{◌≡◌, ◌<◌, ◌≤◌, ℕ, Some}
use Rattle.store_share.specs.Row.{Rev as RevOf}
use Rattle.store_share.specs.Row.{cells_in, known_at}
use Rattle.store_share.proofs.notes.RowNotes.learn.Given as goal

abbrev pub invariant-loop-i : goal.invariant-loop-i
invariant-loop-i l =
    (cells_in l.from ≡ cells_in l.initial.from)
    × ((r : ℕ) → known_at l.from r ≡ known_at l.initial.from r)
    × (cells_in l.self ≡ cells_in l.initial.self)
    × ((r : ℕ) → r < l.i → known_at l.self r ≡ known_at l.initial.from r)
    × ((r : ℕ) (x : RevOf) → r < l.i → known_at l.initial.self r ≡ Some x → known_at l.initial.from r ≡ Some x)
    × ((r : ℕ) → l.i ≤ r → known_at l.self r ≡ known_at l.initial.self r)
