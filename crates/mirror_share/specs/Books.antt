-- What a book with ledgers keeps.
use Rattle.std.specs.Prelude.{◌≡◌, ℕ, Bool, true, false, List, Option, is_some, is_none}
use Rattle.repo_core.specs.Repository.{Revision}
use Rattle.sync_core.specs.Mirror.{standing_of}
use Rattle.mirror_share.specs.Counts.{Counts, count_of, holder_count}

-- the ledgers count the mirror's numbers, as long as no cell has refused its box, and its holder
pub record IsCounted (stuck : Bool) (x : List Revision) (h : Option ℕ) (k : Counts) (held : ℕ) : Type 0 where
  pub merged : stuck ≡ false → k.merged ≡ count_of (standing_of x).merged
  pub copying : stuck ≡ false → k.copying ≡ count_of (standing_of x).copying
  pub head : stuck ≡ false → k.head ≡ (standing_of x).head
  pub holder : held ≡ holder_count h

-- where somebody holds the lock, the mirror is initialised and the lock is set
pub record IsLocked (stuck : Bool) (x : List Revision) (holder : Option ℕ) : Type 0 where
  pub url : stuck ≡ false → is_some holder ≡ true → is_some (standing_of x).url ≡ true
  pub lock : stuck ≡ false → is_some holder ≡ true → is_some (standing_of x).lock ≡ true

-- where nobody holds the lock, and only there, the book has the hand
pub record IsBookKept (stuck : Bool) (x : List Revision) (h : Option ℕ) (k : Counts) (held : ℕ) (has_hand : Bool) : Type 0 where
  pub counted : IsCounted stuck x h k held
  pub locked : IsLocked stuck x h
  pub spared : has_hand ≡ is_none h
