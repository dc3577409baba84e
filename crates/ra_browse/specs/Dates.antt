-- Which revision a date names.
use Rattle.std.specs.Prelude.{ℕ, zero, suc, Bool, false, not, ◌&&◌, ◌==◌, nat_le, List, codes, if◌then◌else◌}
use Rattle.std.specs.Option.{option_map_or}
use Rattle.std.specs.Ordering.{is_gt, nat_cmp}
use Rattle.std.specs.Cmp.Lexicographic.{pointwise, slice_cmp}
use Rattle.std.specs.FinMap as finite
use Rattle.node_base.specs.Props.{PropMap}

-- a date as Subversion writes it, with a 0 in the place of each digit
abbrev pub form : List ℕ
form = codes "0000-00-00T00:00:00.000000Z"

-- a digit stands where the form has a 0, and else the byte that it has
abbrev pub fits_in : ℕ → ℕ → Bool
fits_in f b = if f == 48 then nat_le 48 b && nat_le b 57 else b == f

abbrev pub is_date : List ℕ → Bool
is_date date = pointwise fits_in form date

-- dates of that form stand in the order of their bytes
abbrev pub is_later : List ℕ → List ℕ → Bool
is_later d date = is_gt (slice_cmp nat_cmp d date)

-- a revision has a date of that form which isn't later
abbrev pub is_by : List ℕ → PropMap → Bool
is_by date m = option_map_or (λ d. is_date d && not (is_later d date)) (finite.get m (codes "svn:date")) false

-- the newest of the revisions up to one of which that holds; revision 0 where it holds of none
abbrev pub newest_by : (ℕ → PropMap) → List ℕ → ℕ → ℕ
newest_by props date zero = 0
newest_by props date (suc n) = if is_by date (props (suc n)) then suc n else newest_by props date n
