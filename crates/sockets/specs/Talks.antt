-- What was said over a connection.
use Rattle.std.specs.Prelude.{ℕ, List, Option}

-- it was talked over, by what its output held before, where that is known, and what it held behind
abbrev pub HasTalked : (Option (List ℕ) → Option (List ℕ) → Type 0) → Type 0
HasTalked talks = (before : Option (List ℕ)) × ((behind : Option (List ℕ)) × talks before behind)
