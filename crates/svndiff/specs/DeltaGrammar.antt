-- What bytes are a delta of a base, by cases, apart from any order of reading: version 0 of svndiff in full.
use Rattle.std.specs.Prelude.{◌≡◌, ◌⊎◌, ℕ, ◌+◌, ◌==◌, ◌<◌, ◌≤◌, List, [], ◌∷◌, ◌++◌, length, take, drop, if◌then◌else◌}
use Rattle.svndiff.specs.Groups.{Spells}
use Rattle.svndiff.specs.declared.instructions.Kind.{Kind}
use Rattle.svndiff.specs.declared.instructions.Kind.TheVariants as kind
use Rattle.svndiff.specs.declared.limits.TheConstants.{TEXT_BYTES, WINDOW_BYTES}

-- the top two bits of an instruction say from where it takes bytes
abbrev pub top : Kind → ℕ
top kind.Source = 0
top kind.Target = 64
top kind.New = 128

-- the front of an instruction for so many bytes: their number in its low six bits, or in a number behind them
abbrev pub Sized : Kind → List ℕ → ℕ → Type 0
Sized k bytes n = (0 < n) × (((n < 64) × (bytes ≡ (top k + n) ∷ [])) ⊎ ((digits : List ℕ) × Spells digits n × (bytes ≡ top k ∷ digits)))

-- an instruction that copies so many bytes from a place
abbrev pub Copies : Kind → List ℕ → ℕ → ℕ → Type 0
Copies k bytes at n = (front digits : List ℕ) × Sized k front n × Spells digits at × (bytes ≡ front ++ digits)

-- what instructions make of a view of the base and of new data, one behind the other
pub data Makes (view : List ℕ) : List ℕ → List ℕ → List ℕ → Type 0 where
  Nothing : Makes view [] [] []
  -- bytes of the view
  FromSource : (bytes new made first : List ℕ) (at n : ℕ) → Makes view bytes new made → Copies kind.Source first at n → at + n ≤ length view → Makes view (bytes ++ first) new (made ++ take n (drop at view))
  -- bytes of what is made, from one that stands before: each new byte is the one that stands there once it is made too
  FromTarget : (bytes new made first piece : List ℕ) (at : ℕ) → Makes view bytes new made → Copies kind.Target first at (length piece) → at < length made → piece ≡ take (length piece) (drop at (made ++ piece)) → Makes view (bytes ++ first) new (made ++ piece)
  -- new data
  FromNew : (bytes new made first piece : List ℕ) → Makes view bytes new made → Sized kind.New first (length piece) → Makes view (bytes ++ first) (new ++ piece) (made ++ piece)

-- the bytes of a base from a place
abbrev pub view_of : List ℕ → ℕ → ℕ → List ℕ
view_of base at n = take n (drop at base)

-- a window over a view of so many bytes, from a place: its numbers, its instructions and its new data
pub record IsDeltaWindow (base : List ℕ) (at n : ℕ) (bytes made : List ℕ) : Type 0 where
  pub offset : List ℕ
  pub source : List ℕ
  pub target : List ℕ
  pub size : List ℕ
  pub news : List ℕ
  pub instructions : List ℕ
  pub new : List ℕ
  pub is_offset : Spells offset at
  pub is_source : Spells source n
  pub is_target : Spells target (length made)
  pub is_size : Spells size (length instructions)
  pub is_news : Spells news (length new)
  pub within : (n ≡ 0) ⊎ (at + n ≤ length base)
  pub make : Makes (view_of base at n) instructions new made
  pub short : length made ≤ WINDOW_BYTES
  pub short_view : n ≤ WINDOW_BYTES
  pub short_new : length new ≤ WINDOW_BYTES
  pub joined : bytes ≡ offset ++ (source ++ (target ++ (size ++ (news ++ (instructions ++ new)))))

-- neither end of a view that has a byte stands before that of the last one
abbrev pub SlidesOn : ℕ → ℕ → ℕ → ℕ → Type 0
SlidesOn floor ceiling at n = (n ≡ 0) ⊎ ((floor ≤ at) × (ceiling ≤ at + n))

-- the ends of the last view that has a byte
abbrev pub last_of : ℕ → ℕ → ℕ → ℕ
last_of n old new = if n == 0 then old else new

-- windows, one after another, the ends of the last view that has a byte, and what they make
pub data AreDeltas (base : List ℕ) : ℕ → ℕ → List ℕ → List ℕ → Type 0 where
  Empty : AreDeltas base 0 0 [] []
  Then : (floor ceiling at n : ℕ) (bytes text first made : List ℕ) → AreDeltas base floor ceiling bytes text → IsDeltaWindow base at n first made → SlidesOn floor ceiling at n → AreDeltas base (last_of n floor at) (last_of n ceiling (at + n)) (bytes ++ first) (text ++ made)

-- the four bytes of the format's version 0, and windows that make a text within the limit
pub record IsDelta (bytes base text : List ℕ) : Type 0 where
  pub windows : List ℕ
  pub floor : ℕ
  pub ceiling : ℕ
  pub are : AreDeltas base floor ceiling windows text
  pub fits : length text ≤ TEXT_BYTES
  pub joined : bytes ≡ 83 ∷ 86 ∷ 78 ∷ 0 ∷ windows
