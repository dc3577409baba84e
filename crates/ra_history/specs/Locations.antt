-- Where what stands at a place stood in other revisions.
use Rattle.std.specs.Prelude.{◌≡◌, ℕ, Bool, true, false, nat_lt, List, [], ◌∷◌, ◌++◌, Option, Some, None, MatchOption, if◌then◌else◌}
use Rattle.std.specs.List.{Contains}
use Rattle.path_history.specs.declared.place.Place.{Place}
use Rattle.path_history.specs.Places.{Sets, place, Follows}
use Rattle.path_history.specs.Histories.{IsPlaceAt, IsTooLong}

-- its path in a revision
abbrev pub later : Place → ℕ → Place
later a n = place n a.path

-- in a later revision it stands at its path, if what stands there then came from it
abbrev pub IsLater : Sets → Place → ℕ → Option Place → Type 0
IsLater sets a n o = MatchOption o (Follows true sets (later a n) a → ⊥) (λ b. (b ≡ later a n) × Follows true sets (later a n) a)

-- from where it is looked for
abbrev pub seen_from : Place → ℕ → Place
seen_from a n = if nat_lt a.revision n then later a n else a

-- in a later revision, or in one that isn't
abbrev pub IsAt : Bool → Sets → Place → ℕ → Option Place → Type 0
IsAt true sets a n o = IsLater sets a n o
IsAt false sets a n o = IsPlaceAt sets a n o

abbrev pub IsLocation : Sets → Place → ℕ → Option Place → Type 0
IsLocation sets a n o = IsAt (nat_lt a.revision n) sets a n o

-- ---- in several revisions, one after another

abbrev pub perhaps : Option Place → List Place
perhaps None = []
perhaps (Some b) = b ∷ []

abbrev pub AreLocations : Sets → Place → List ℕ → List Place → Type 0
AreLocations sets a [] told = told ≡ []
AreLocations sets a (n ∷ ns) told = (o : Option Place) × (rest : List Place) × IsLocation sets a n o × AreLocations sets a ns rest × (told ≡ perhaps o ++ rest)

-- that of one more stands behind others
abbrev pub IsPushed : Sets → Place → ℕ → List Place → List Place → Type 0
IsPushed sets a n old new = (o : Option Place) × IsLocation sets a n o × (new ≡ old ++ perhaps o)

-- from where it is looked for in one of them a line has a path past the limits
pub record IsOneTooLong (sets : Sets) (a : Place) (ns : List ℕ) : Type 0 where
  pub number : ℕ
  pub given : Contains ns number
  pub long : IsTooLong true sets (seen_from a number)
