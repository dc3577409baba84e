-- Which revisions are asked for.
use Rattle.std.specs.Prelude.{ℕ, ◌+◌, ◌-◌, Option}
use Rattle.std.specs.Option.{option_map_or}
use Rattle.repo_core.specs.Repository.{Repository, head_of}
use Rattle.store_engines.specs.declared.range.RevRange.{RevRange}

abbrev pub first_in : RevRange → ℕ
first_in range = range.first

abbrev pub last_in : RevRange → ℕ
last_in range = range.last

-- the first revision that is wanted: that of the range, and else 0
abbrev pub first_wanted : Option RevRange → ℕ
first_wanted range = option_map_or first_in range 0

-- the last one: that of the range, and else the head
abbrev pub last_wanted : Repository → Option RevRange → ℕ
last_wanted r range = option_map_or last_in range (head_of r.revisions)

-- how many they are
abbrev pub count_wanted : Repository → Option RevRange → ℕ
count_wanted r range = last_wanted r range + 1 - first_wanted range
