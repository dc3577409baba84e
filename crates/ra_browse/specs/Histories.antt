-- What histories have, and how it is told.
use Rattle.std.specs.Prelude.{◌≡◌, ℕ, not, Bool, true, false, nat_lt, List, [], ◌∷◌, ◌++◌, map, reverse, Option, Some, None, if◌then◌else◌}
use Rattle.repo_core.specs.Repository.{Repository, trees_of}
use Rattle.ra_item.specs.Items.{Item, row, spell, spell_all}
use Rattle.browse_wire.specs.Asks.{Ask, Locations, Log, LogAsk, FileRevs}
use Rattle.browse_wire.specs.Told.{end_item, location_item}
use Rattle.path_history.specs.declared.asked.Asked.{Asked}
use Rattle.path_history.specs.declared.place.Place.{Place}
use Rattle.path_history.specs.Histories.{IsHistory, IsTooLong}
use Rattle.path_history.specs.Places.{Sets, place}
use Rattle.path_history.specs.Logs as log
use Rattle.ra_history.specs.Locations.{AreLocations, IsOneTooLong}
use Rattle.ra_history.specs.Logs.{IsTold}
use Rattle.ra_history.specs.Rows.{props_of}
use Rattle.ra_history.specs.declared.range.LogRange.{LogRange}
use Rattle.ra_log.specs.Entries.{entries_told}
use Rattle.ra_log.specs.Versions.{versions_told}
use Rattle.node_base.specs.Path.{Path}
use Rattle.ra_serve.specs.Answers.{asked}
use Rattle.ra_denial.specs.declared.denial.Denial.{Denial}
use Rattle.ra_denial.specs.declared.denial.Denial.TheVariants as denial

-- what was found of a history: nothing, where a command asks for none; where a node stood; which revisions changed some paths; or that a path of a line is past the limits
pub data Found : Type 0 where
  Nothing : Found
  Stood : List Place → Found
  Logged : List ℕ → Found
  PastLimits : Found

-- the newest of some revisions
abbrev pub newer : ℕ → ℕ → ℕ
newer n m = if nat_lt n m then m else n

abbrev pub newest : ℕ → List ℕ → ℕ
newest n [] = n
newest n (m ∷ ms) = newest (newer n m) ms

-- ---- what a log asks

-- the newer end of its range
abbrev pub newest_logged : Repository → LogAsk → ℕ
newest_logged x l = newer (asked x l.start) (asked x l.end)

-- from its first revision to its last, up to its limit, across copies or not
abbrev pub range_of : ℕ → ℕ → LogAsk → LogRange
range_of first last l = record { first = first; last = last; limit = l.limit; crosses_copies = not l.strict }

abbrev pub range_logged : Repository → LogAsk → LogRange
range_logged x l = range_of (asked x l.start) (asked x l.end) l

-- paths below the session's; the root where none is named
abbrev pub paths_below : Path → List Path → List Path
paths_below base [] = [] ∷ []
paths_below base (p ∷ ps) = map (λ q. base ++ q) (p ∷ ps)

abbrev pub places_below : ℕ → Path → LogAsk → List Place
places_below n base l = map (place n) (paths_below base l.paths)

abbrev pub places_logged : Repository → Path → LogAsk → List Place
places_logged x base l = places_below (newest_logged x l) base l

-- ---- what is found

-- where what stands at a place stood in these revisions
abbrev pub FindsPlaces : Sets → Place → List ℕ → Found → Type 0
FindsPlaces sets a ns Nothing = ⊥
FindsPlaces sets a ns (Stood places) = AreLocations sets a ns places
FindsPlaces sets a ns (Logged told) = ⊥
FindsPlaces sets a ns PastLimits = IsOneTooLong sets a ns

-- the same where it is looked for, and no place where it isn't
abbrev pub FindsIf : Bool → Sets → Place → List ℕ → Found → Type 0
FindsIf true sets a ns found = FindsPlaces sets a ns found
FindsIf false sets a ns found = found ≡ Stood []

-- the revisions of a range in which one of the places, or something below it, changed
abbrev pub FindsLog : Sets → LogRange → List Place → Found → Type 0
FindsLog sets r places (Logged told) = IsTold sets r places told
FindsLog sets r places PastLimits = log.IsOneTooLong r.crosses_copies sets places
FindsLog sets r places found = ⊥

-- the same where they are looked for, and none where they aren't
abbrev pub FindsLogIf : Bool → Sets → LogRange → List Place → Found → Type 0
FindsLogIf true sets r places found = FindsLog sets r places found
FindsLogIf false sets r places found = found ≡ Logged []

-- ---- versions of a file

-- of a history, newest first, the places that are newer than a revision, and the next
abbrev pub down_to : ℕ → List Place → List Place
down_to n [] = []
down_to n (a ∷ s) = a ∷ (if nat_lt n a.revision then down_to n s else [])

-- all revisions up to one, across copies
abbrev pub up_to : ℕ → Asked
up_to n = record { lowest = 0; highest = n; limit = 0; crosses_copies = true }

-- where what stands at a place was changed behind a revision, oldest first, and in front of these where it was changed last before
abbrev pub AreVersions : Sets → Place → ℕ → List Place → Type 0
AreVersions sets a first told = (history : List Place) × IsHistory sets (up_to a.revision) a history × (told ≡ reverse (down_to first history))

abbrev pub FindsVersions : Sets → Place → ℕ → Found → Type 0
FindsVersions sets a first Nothing = ⊥
FindsVersions sets a first (Stood places) = AreVersions sets a first places
FindsVersions sets a first (Logged told) = ⊥
FindsVersions sets a first PastLimits = IsTooLong true sets a

-- the same where they are looked for, and none where they aren't
abbrev pub FindsVersionsIf : Bool → Sets → Place → ℕ → Found → Type 0
FindsVersionsIf true sets a first found = FindsVersions sets a first found
FindsVersionsIf false sets a first found = found ≡ Stood []

-- ---- how it is told

abbrev pub place_item : Place → Item
place_item a = location_item a.revision a.path

abbrev pub places_told : List Place → List ℕ
places_told places = spell_all (row (map place_item places))

abbrev pub places_of : Found → List Place
places_of (Stood places) = places
places_of found = []

abbrev pub numbers_of : Found → List ℕ
numbers_of (Logged told) = told
numbers_of found = []

-- the entries of a log, by what stands in the repository
abbrev pub entries_of : Repository → LogAsk → List ℕ → List ℕ
entries_of x l told = entries_told l x.sets (props_of x.revisions) (trees_of x.revisions) told

-- the versions of a file at some places, by what stands in the repository
abbrev pub versions_of : Repository → List Place → List ℕ
versions_of x places = versions_told (props_of x.revisions) (trees_of x.revisions) None places

-- the items of a list, and its end, which stand before a success and a failure
abbrev pub listed : Repository → Ask → Found → List ℕ
listed x (Locations p peg ns) found = places_told (places_of found) ++ spell end_item
listed x (Log l) found = entries_of x l (numbers_of found) ++ spell end_item
listed x (FileRevs p start end merged) found = versions_of x (places_of found) ++ spell end_item
listed x c found = []

-- what is denied of a command by what was found
abbrev pub found_denied : Found → Option Denial
found_denied PastLimits = Some denial.NoPath
found_denied found = None
