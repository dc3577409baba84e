-- The properties of a mirror's synchronisation, on its revision 0, and how numbers stand in them.
use Rattle.std.specs.Prelude.{ℕ, ◌+◌, ◌==◌, ◌&&◌, nat_le, not, Bool, true, false, List, [], ◌∷◌, codes, if◌then◌else◌}
use Rattle.std.specs.Option.{option_map_or}
use Rattle.std.specs.FinMap as finite
use Rattle.node_base.specs.Path.{Name}
use Rattle.node_base.specs.Props.{PropMap}
use Rattle.node_base.specs.Numbers.{is_digit, all_bytes, decimal}
pub use Rattle.sync_core.specs.declared.number.Number.{Number}
pub use Rattle.sync_core.specs.declared.number.Number.TheVariants.{Absent, Misspelt, Spelt, Huge}

-- where the mirror's revisions come from
unfoldable pub url_name : Name
url_name = codes "svn:sync-from-url"

-- the identity of the repository that they come from
unfoldable pub uuid_name : Name
uuid_name = codes "svn:sync-from-uuid"

-- the last revision that is copied whole
unfoldable pub merged_name : Name
merged_name = codes "svn:sync-last-merged-rev"

-- the revision that is being copied
unfoldable pub copying_name : Name
copying_name = codes "svn:sync-currently-copying"

-- the token of the job that copies
unfoldable pub lock_name : Name
lock_name = codes "svn:sync-lock"

-- no zero in front of another digit
abbrev pub starts_right : List ℕ → Bool
starts_right [] = false
starts_right (c ∷ []) = true
starts_right (c ∷ d ∷ cs) = not (c == 48)

-- one decimal digit or more and nothing else, without leading zeros
abbrev pub is_spelt : List ℕ → Bool
is_spelt b = starts_right b && all_bytes is_digit b

-- the number that a value spells
unfoldable pub number_of : List ℕ → Number
number_of b = if is_spelt b then option_map_or Spelt (decimal b) Huge else Misspelt

-- the number in a property
abbrev pub number_at : PropMap → Name → Number
number_at p name = option_map_or number_of (finite.get p name) Absent

abbrev pub is_absent : Number → Bool
is_absent Absent = true
is_absent Misspelt = false
is_absent (Spelt k) = false
is_absent Huge = false

-- whether it is this number
abbrev pub is_number : Number → ℕ → Bool
is_number Absent n = false
is_number Misspelt n = false
is_number (Spelt k) n = k == n
is_number Huge n = false

-- whether n is at most this number
abbrev pub reaches : Number → ℕ → Bool
reaches Absent n = false
reaches Misspelt n = false
reaches (Spelt k) n = nat_le n k
reaches Huge n = true

-- whether it is the number before n
abbrev pub precedes : Number → ℕ → Bool
precedes Absent n = false
precedes Misspelt n = false
precedes (Spelt k) n = k + 1 == n
precedes Huge n = false
