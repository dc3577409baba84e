-- The revisions that a log tells.
use Rattle.std.specs.Prelude.{◌≡◌, ℕ, ◌==◌, nat_lt, List, take, reverse, if◌then◌else◌}
use Rattle.path_history.specs.declared.asked.Asked.{Asked}
use Rattle.path_history.specs.declared.place.Place.{Place}
use Rattle.path_history.specs.Places.{Sets}
use Rattle.path_history.specs.Logs.{IsLog}
use Rattle.ra_history.specs.declared.range.LogRange.{LogRange}

-- what is asked of the histories: the range from its older end to its newer one, whatever the limit
abbrev pub asked_of : LogRange → Asked
asked_of r = record { lowest = if nat_lt r.last r.first then r.last else r.first; highest = if nat_lt r.last r.first then r.first else r.last; limit = 0; crosses_copies = r.crosses_copies }

-- in the range's direction, and as many as the limit says
abbrev pub directed : LogRange → List ℕ → List ℕ
directed r ns = if nat_lt r.last r.first then reverse ns else ns

abbrev pub cut : ℕ → List ℕ → List ℕ
cut limit ns = if limit == 0 then ns else take limit ns

-- the revisions in which one of the places, or something below it, changed
abbrev pub IsTold : Sets → LogRange → List Place → List ℕ → Type 0
IsTold sets r places told = (ns : List ℕ) × IsLog sets (asked_of r) places ns × (told ≡ cut r.limit (directed r ns))
