-- Whether a mirror is one of a master.
use Rattle.std.specs.Prelude.{Bool, false, List, ℕ, Option}
use Rattle.std.specs.Option.{option_map_or}
use Rattle.node_base.specs.Path.{same_name}

-- the identity that the mirror notes is the master's, byte by byte
abbrev pub is_identity : Option (List ℕ) → List ℕ → Bool
is_identity uuid found = option_map_or (λ own. same_name own found) uuid false
