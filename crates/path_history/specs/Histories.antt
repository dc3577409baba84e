-- The history of a place: the places of its line that their revisions touch.
use Rattle.std.specs.Prelude.{◌≡◌, ◌≤◌, ◌<◌, ◌⊎◌, ℕ, Bool, true, false, List, [], ◌∷◌, length, Option, MatchOption}
use Rattle.std.specs.List.{AllByRecursion, Contains}
use Rattle.node_base.specs.Limits.{fits}
use Rattle.path_history.specs.declared.asked.Asked.{Asked}
use Rattle.path_history.specs.declared.place.Place.{Place}
use Rattle.path_history.specs.Places.{Sets, Follows, is_touched}

-- the line of what stands at a place, where there is one
abbrev pub FollowsFrom : Bool → Sets → Option Place → Place → Type 0
FollowsFrom crosses sets o b = MatchOption o ⊥ (λ a. Follows crosses sets a b)

-- b is asked for of the history of a: it is on the line, its revision touches it, and is one of those asked for
pub record IsAsked (sets : Sets) (w : Asked) (a b : Place) : Type 0 where
  pub follows : Follows w.crosses_copies sets a b
  pub touched : is_touched sets b ≡ true
  pub from : w.lowest ≤ b.revision
  pub to : b.revision ≤ w.highest

-- each place is of an earlier revision than those before it
abbrev pub Fall : List Place → Type 0
Fall [] = Unit {0}
Fall (a ∷ s) = AllByRecursion (λ b. b.revision < a.revision) s × Fall s

-- as many are told as the limit says, and all of them are newer than b
pub record IsCut (limit : ℕ) (told : List Place) (b : Place) : Type 0 where
  pub some : 0 < limit
  pub full : length told ≡ limit
  pub newer : AllByRecursion (λ t. b.revision < t.revision) told

-- the history of a, newest first: nothing else is told, nothing that is asked for is left out but for the limit, and no revision is told twice
pub record IsHistory (sets : Sets) (w : Asked) (a : Place) (told : List Place) : Type 0 where
  pub each : AllByRecursion (IsAsked sets w a) told
  pub all : (b : Place) → IsAsked sets w a b → Contains told b ⊎ IsCut w.limit told b
  pub falls : Fall told
  pub few : (w.limit ≡ 0) ⊎ (length told ≤ w.limit)

-- some place of the line is past the limits of paths
pub record IsTooLong (crosses : Bool) (sets : Sets) (a : Place) : Type 0 where
  pub at : Place
  pub follows : Follows crosses sets a at
  pub long : fits at.path ≡ false

-- the place of a line in a revision, where there is one
abbrev pub IsPlaceAt : Sets → Place → ℕ → Option Place → Type 0
IsPlaceAt sets a n o = MatchOption o ((b : Place) → Follows true sets a b → b.revision ≡ n → ⊥) (λ b. Follows true sets a b × (b.revision ≡ n))
