-- Stretches of a line: the revisions in which it has one path, with no copy between.
use Rattle.std.specs.Prelude.{◌≡◌, ◌≤◌, ◌<◌, ◌⊎◌, ℕ, true, Option, None, is_some, IfSome, IsSomeAnd, slice_get}
use Rattle.dump_load.specs.Changes.{governing}
use Rattle.path_history.specs.declared.place.Place.{Place}
use Rattle.path_history.specs.Places.{Sets, place, came_from, Follows}

-- from the first of these revisions on up to its own, what stands at a place was at its path: no set between governs it; before is where it came from to the first
pub record IsStretch (sets : Sets) (a : Place) (first : ℕ) (before : Option Place) : Type 0 where
  pub within : first ≤ a.revision
  pub line : (m : ℕ) → first ≤ m → m ≤ a.revision → Follows true sets a (place m a.path)
  pub stays : (m : ℕ) → first < m → m ≤ a.revision → IsSomeAnd (slice_get sets m) (λ set. governing set a.path ≡ None)
  pub begins : IfSome (slice_get sets first) (λ set. (first ≡ 0) ⊎ (is_some (governing set a.path) ≡ true))
  pub came : before ≡ came_from true sets (place first a.path)
