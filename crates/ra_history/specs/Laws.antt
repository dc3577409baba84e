-- Laws of logs.
use Rattle.std.specs.Prelude.{◌≡◌, ℕ, List}
use Rattle.std.specs.List.{All, Contains}
use Rattle.path_history.specs.declared.place.Place.{Place}
use Rattle.path_history.specs.Places.{Sets}
use Rattle.path_history.specs.Histories.{IsAsked}
use Rattle.path_history.specs.Logs.{IsLogged}
use Rattle.ra_history.specs.declared.range.LogRange.{LogRange}
use Rattle.ra_history.specs.Logs.{IsTold, asked_of}

-- a log without a limit tells each revision of its range in which the line of one of its places is touched
abbrev pub TellsEach : Type 0
TellsEach = (sets : Sets) (r : LogRange) (places : List Place) (told : List ℕ) → IsTold sets r places told → r.limit ≡ 0 → (a b : Place) → Contains places a → IsAsked sets (asked_of r) a b → Contains told b.revision

-- and no log tells another
abbrev pub TellsNoOther : Type 0
TellsNoOther = (sets : Sets) (r : LogRange) (places : List Place) (told : List ℕ) → IsTold sets r places told → All (IsLogged sets (asked_of r) places) told
