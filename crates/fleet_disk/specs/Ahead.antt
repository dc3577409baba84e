-- What was read of a file ahead of what was asked for.
use Rattle.std.specs.Prelude.{◌≡◌, ◌≤◌, ◌-◌, ℕ, List, length, take, drop}

-- these bytes, as many as this, are those of the file from this place on
abbrev pub IsAhead : List ℕ → ℕ → ℕ → List ℕ → Type 0
IsAhead file at len bytes = (len ≤ length file - at) × (take len bytes ≡ take len (drop at file))
