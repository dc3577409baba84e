-- The log of several places, and what it tells of a change.
use Rattle.std.specs.Prelude.{◌≡◌, ℕ, Bool, false, not, ◌&&◌, ◌==◌, List, is_some}
use Rattle.std.specs.List.{Contains}
use Rattle.std.specs.List.Sorted.{IsStrictlyIncreasing}
use Rattle.std.specs.Option.{option_map_or}
use Rattle.std.specs.FinMap as map
use Rattle.node_base.specs.declared.node.Action.{Action}
use Rattle.node_base.specs.declared.node.Action.TheVariants.{Modify, Add, Delete, Replace}
use Rattle.dump_load.specs.declared.change.Change.{Change}
use Rattle.dump_load.specs.Changes.{is_plain}
use Rattle.path_history.specs.declared.asked.Asked.{Asked}
use Rattle.path_history.specs.declared.changed.ChangedPath.{ChangedPath}
use Rattle.path_history.specs.declared.place.Place.{Place}
use Rattle.path_history.specs.Places.{Sets}
use Rattle.path_history.specs.Histories.{IsAsked, IsTooLong}

-- the history of one of the places has that revision
pub record IsLogged (sets : Sets) (w : Asked) (places : List Place) (n : ℕ) : Type 0 where
  pub from : Place
  pub at : Place
  pub given : Contains places from
  pub asked : IsAsked sets w from at
  pub number : at.revision ≡ n

-- these are the revisions that the histories of the places have
pub record HasLogged (sets : Sets) (w : Asked) (places : List Place) (told : List ℕ) : Type 0 where
  pub each : (n : ℕ) → Contains told n → IsLogged sets w places n
  pub all : (n : ℕ) → IsLogged sets w places n → Contains told n

-- each of them once, oldest first
pub record IsLog (sets : Sets) (w : Asked) (places : List Place) (told : List ℕ) : Type 0 where
  pub has : HasLogged sets w places told
  pub rises : IsStrictlyIncreasing told

-- the line of one of the places has a path past the limits
pub record IsOneTooLong (crosses : Bool) (sets : Sets) (places : List Place) : Type 0 where
  pub from : Place
  pub given : Contains places from
  pub long : IsTooLong crosses sets from

-- the letter of an action: A, D, R, and M for a change of what is there
abbrev pub letter : Action → ℕ
letter Modify = 77
letter Add = 65
letter Delete = 68
letter Replace = 82

-- a change tells of properties where it gives them, but for none at an add or replace that copies nothing
abbrev pub tells_props : Change → Bool
tells_props c = option_map_or (λ m. not (is_plain c && (map.len m == 0))) c.props false

-- what is told of a change: whether it gives a text, and whether properties
abbrev pub changed_path : Change → ChangedPath
changed_path c = record { letter = letter c.action; kind = c.kind; text = is_some c.text; props = tells_props c }
