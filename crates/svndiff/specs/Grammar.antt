-- What bytes are a text in windows of new data alone, by cases, apart from any order of reading.
use Rattle.std.specs.Prelude.{◌≡◌, ◌⊎◌, ℕ, ◌+◌, ◌<◌, ◌≤◌, List, [], ◌∷◌, ◌++◌, length}
use Rattle.svndiff.specs.Groups.{Spells}
use Rattle.svndiff.specs.declared.limits.TheConstants.{TEXT_BYTES, WINDOW_BYTES}

-- an instruction for so much new data: its length in the low six bits, or in a number behind it
abbrev pub IsNew : List ℕ → ℕ → Type 0
IsNew bytes n = (0 < n) × (((n < 64) × (bytes ≡ (128 + n) ∷ [])) ⊎ ((digits : List ℕ) × Spells digits n × (bytes ≡ 128 ∷ digits)))

-- instructions for so much new data in all
pub data AreNew : List ℕ → ℕ → Type 0 where
  None : AreNew [] 0
  More : (bytes first : List ℕ) (m n : ℕ) → AreNew bytes m → IsNew first n → AreNew (bytes ++ first) (m + n)

-- a window: any source offset, no source, the lengths of its text, of its instructions and of its new data, and then these
pub record IsWindow (bytes new : List ℕ) : Type 0 where
  pub offset : List ℕ
  pub source : List ℕ
  pub target : List ℕ
  pub size : List ℕ
  pub news : List ℕ
  pub instructions : List ℕ
  pub anywhere : ℕ
  pub is_offset : Spells offset anywhere
  pub no_source : Spells source 0
  pub is_target : Spells target (length new)
  pub is_size : Spells size (length instructions)
  pub is_news : Spells news (length new)
  pub make : AreNew instructions (length new)
  pub short : length new ≤ WINDOW_BYTES
  pub joined : bytes ≡ offset ++ (source ++ (target ++ (size ++ (news ++ (instructions ++ new)))))

-- windows, one after another, and their new data joined
pub data AreWindows : List ℕ → List ℕ → Type 0 where
  Empty : AreWindows [] []
  Then : (bytes text first new : List ℕ) → AreWindows bytes text → IsWindow first new → AreWindows (bytes ++ first) (text ++ new)

-- the four bytes of the format's version 0, and windows of a text within the limit
pub record IsText (bytes text : List ℕ) : Type 0 where
  pub windows : List ℕ
  pub are : AreWindows windows text
  pub fits : length text ≤ TEXT_BYTES
  pub joined : bytes ≡ 83 ∷ 86 ∷ 78 ∷ 0 ∷ windows
