-- Numbers of tokens.
use Rattle.std.specs.Prelude.{◌≡◌, ◌≤◌, ◌+◌, ◌==◌, ℕ, Option, MatchOption, slice_index, if◌then◌else◌}
use Rattle.ra_edit.specs.declared.token.Tokens.{Tokens}

-- the number of the newest thing opened at a path of so many names
abbrev pub newest : Tokens → ℕ → ℕ
newest t depth = slice_index t.newest depth

-- the next number is given out, and is that of the newest thing of so many names; or none is left, and nothing changes
abbrev pub GivesNext : Tokens → Tokens → ℕ → Option ℕ → Type 0
GivesNext old new depth result = MatchOption result ((new ≡ old) × (18446744073709551615 ≤ old.next)) (λ n. (n ≡ old.next) × (new.next ≡ n + 1) × ((d : ℕ) → newest new d ≡ (if d == depth then n else newest old d)))
