-- Names of which one stands twice.
use Rattle.std.specs.Prelude.{ℕ, List, [], ◌∷◌, Option, Some, None, bytes_eq, if◌then◌else◌}
use Rattle.std.specs.List.{list_any}

-- the first name that stands again behind itself
abbrev pub first_twice : List (List ℕ) → Option (List ℕ)
first_twice [] = None
first_twice (n ∷ ns) = if list_any (bytes_eq n) ns then Some n else first_twice ns
