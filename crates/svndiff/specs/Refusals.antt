-- Which number refused bytes get, apart from any order of reading: one line a number.
use Rattle.std.specs.Prelude.{◌≡◌, ◌⊎◌, ℕ, ◌+◌, ◌<◌, ◌≤◌, List, [], ◌∷◌, ◌++◌, length}
use Rattle.svndiff.specs.Groups.{Spells}
use Rattle.svndiff.specs.Grammar.{AreNew, AreWindows, IsText}
use Rattle.svndiff.specs.Streams.{Refuses, stream_of}
use Rattle.svndiff.specs.declared.fault.WindowFault.{WindowFault}
use Rattle.svndiff.specs.declared.fault.WindowFault.TheVariants.{BadWindow, CopyWindow, TooLong, Failed}
use Rattle.svndiff.specs.declared.limits.TheConstants.{TEXT_BYTES, WINDOW_BYTES}

-- the version, and whole windows of a text that may have so many bytes more
pub record Whole_windows (bytes text : List ℕ) (room : ℕ) : Type 0 where
  pub windows : List ℕ
  pub are : AreWindows windows text
  pub room_is : length text + room ≡ TEXT_BYTES
  pub joined : bytes ≡ 83 ∷ 86 ∷ 78 ∷ 0 ∷ windows

-- the numbers in front of a window, one behind the other
abbrev pub Offset : List ℕ → Type 0
Offset bytes = (anywhere : ℕ) × Spells bytes anywhere

abbrev pub AndSource : ℕ → List ℕ → Type 0
AndSource source bytes = (front digits : List ℕ) × Offset front × Spells digits source × (bytes ≡ front ++ digits)

abbrev pub AndTarget : ℕ → ℕ → List ℕ → Type 0
AndTarget source target bytes = (front digits : List ℕ) × AndSource source front × Spells digits target × (bytes ≡ front ++ digits)

abbrev pub AndSize : ℕ → ℕ → ℕ → List ℕ → Type 0
AndSize source target size bytes = (front digits : List ℕ) × AndTarget source target front × Spells digits size × (bytes ≡ front ++ digits)

abbrev pub Numbers : ℕ → ℕ → ℕ → ℕ → List ℕ → Type 0
Numbers source target size fresh bytes = (front digits : List ℕ) × AndSize source target size front × Spells digits fresh × (bytes ≡ front ++ digits)

-- a window makes, or brings, more than it may, or more than the text may still have
abbrev pub IsPast : ℕ → ℕ → ℕ → Type 0
IsPast target fresh room = (WINDOW_BYTES < target) ⊎ ((WINDOW_BYTES < fresh) ⊎ (room < fresh))

-- a window's numbers are past a limit
abbrev pub IsOverfull : List ℕ → List ℕ → Type 0
IsOverfull text bytes = (front numbers : List ℕ) × (room source target size fresh : ℕ) × Whole_windows front text room × Numbers source target size fresh numbers × IsPast target fresh room × (bytes ≡ front ++ numbers)

-- they are within the limits, and it has a source
abbrev pub HasSource : List ℕ → List ℕ → Type 0
HasSource text bytes = (front numbers : List ℕ) × (room source target size fresh : ℕ) × Whole_windows front text room × Numbers source target size fresh numbers × (target ≤ WINDOW_BYTES) × (fresh ≤ WINDOW_BYTES) × (fresh ≤ room) × (0 < source) × (bytes ≡ front ++ numbers)

-- behind instructions for new data, one that isn't begins within those that were announced: its first byte says so
abbrev pub Copies : List ℕ → List ℕ → Type 0
Copies text bytes = (front numbers made : List ℕ) × (room target left fresh made_so_far b : ℕ) × Whole_windows front text room × Numbers 0 target (length made + left) fresh numbers × AreNew made made_so_far × (fresh ≤ WINDOW_BYTES) × (fresh ≤ room) × (0 < left) × (b < 128) × (bytes ≡ front ++ (numbers ++ (made ++ b ∷ [])))

-- why bytes are refused at the last of them, behind this much of a text: 8, 45, 44 and no other
abbrev pub IsDue : WindowFault → List ℕ → List ℕ → Type 0
IsDue TooLong text bytes = IsOverfull text bytes
IsDue CopyWindow text bytes = HasSource text bytes ⊎ Copies text bytes
IsDue BadWindow text bytes = (more whole : List ℕ) → IsText (bytes ++ more) whole → ⊥
IsDue Failed text bytes = ⊥

-- bytes are refused for what is due at one of them
abbrev pub RefusedForCause : Type 0
RefusedForCause = (bytes text : List ℕ) (f : WindowFault) → stream_of bytes ≡ Refuses text f → (front rest : List ℕ) × (bytes ≡ front ++ rest) × (stream_of front ≡ Refuses text f) × IsDue f text front

-- refused bytes begin no text
abbrev pub RefusedIsNoFront : Type 0
RefusedIsNoFront = (bytes more text whole : List ℕ) (f : WindowFault) → stream_of bytes ≡ Refuses text f → IsText (bytes ++ more) whole → ⊥
