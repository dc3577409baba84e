-- Which number refused bytes of a delta get, apart from any order of reading: one line a number.
use Rattle.std.specs.Prelude.{◌≡◌, ◌⊎◌, ℕ, ◌+◌, ◌<◌, List, ◌∷◌, ◌++◌, length}
use Rattle.svndiff.specs.Groups.{Spells}
use Rattle.svndiff.specs.DeltaGrammar.{AreDeltas, IsDelta}
use Rattle.svndiff.specs.DeltaStreams.{Refuses, stream_of}
use Rattle.svndiff.specs.declared.delta_fault.DeltaFault.{DeltaFault}
use Rattle.svndiff.specs.declared.delta_fault.DeltaFault.TheVariants.{BadWindow, TooLong, Failed, OutOfMemory}
use Rattle.svndiff.specs.declared.limits.TheConstants.{TEXT_BYTES, WINDOW_BYTES}

-- the version, and whole windows of a text that may have so many bytes more
pub record WholeDeltas (base bytes text : List ℕ) (floor ceiling room : ℕ) : Type 0 where
  pub windows : List ℕ
  pub are : AreDeltas base floor ceiling windows text
  pub room_is : length text + room ≡ TEXT_BYTES
  pub joined : bytes ≡ 83 ∷ 86 ∷ 78 ∷ 0 ∷ windows

-- the numbers in front of a window, one behind the other
abbrev pub AndSource : ℕ → ℕ → List ℕ → Type 0
AndSource offset source bytes = (front digits : List ℕ) × Spells front offset × Spells digits source × (bytes ≡ front ++ digits)

abbrev pub AndTarget : ℕ → ℕ → ℕ → List ℕ → Type 0
AndTarget offset source target bytes = (front digits : List ℕ) × AndSource offset source front × Spells digits target × (bytes ≡ front ++ digits)

abbrev pub AndSize : ℕ → ℕ → ℕ → ℕ → List ℕ → Type 0
AndSize offset source target size bytes = (front digits : List ℕ) × AndTarget offset source target front × Spells digits size × (bytes ≡ front ++ digits)

abbrev pub DeltaNumbers : ℕ → ℕ → ℕ → ℕ → ℕ → List ℕ → Type 0
DeltaNumbers offset source target size fresh bytes = (front digits : List ℕ) × AndSize offset source target size front × Spells digits fresh × (bytes ≡ front ++ digits)

-- a window makes, brings or sees more than it may, or makes more than the text may still have
abbrev pub IsPast : ℕ → ℕ → ℕ → ℕ → Type 0
IsPast target fresh source room = (WINDOW_BYTES < target) ⊎ ((WINDOW_BYTES < fresh) ⊎ ((WINDOW_BYTES < source) ⊎ (room < target)))

-- a window's numbers are past a limit
pub record IsOverfull (base text bytes : List ℕ) : Type 0 where
  pub front : List ℕ
  pub numbers : List ℕ
  pub floor : ℕ
  pub ceiling : ℕ
  pub room : ℕ
  pub offset : ℕ
  pub source : ℕ
  pub target : ℕ
  pub size : ℕ
  pub fresh : ℕ
  pub whole : WholeDeltas base front text floor ceiling room
  pub are : DeltaNumbers offset source target size fresh numbers
  pub past : IsPast target fresh source room
  pub joined : bytes ≡ front ++ numbers

-- why bytes are refused at the last of them, behind this much of a text: 8, 44 and no other
abbrev pub IsDue : DeltaFault → List ℕ → List ℕ → List ℕ → Type 0
IsDue TooLong base text bytes = IsOverfull base text bytes
IsDue BadWindow base text bytes = (more whole : List ℕ) → IsDelta (bytes ++ more) base whole → ⊥
IsDue Failed base text bytes = ⊥
IsDue OutOfMemory base text bytes = ⊥

-- bytes are refused for what is due at one of them
abbrev pub DeltaRefusedForCause : Type 0
DeltaRefusedForCause = (bytes base text : List ℕ) (f : DeltaFault) → stream_of base bytes ≡ Refuses text f → (front rest : List ℕ) × (bytes ≡ front ++ rest) × (stream_of base front ≡ Refuses text f) × IsDue f base text front

-- refused bytes begin no delta of that base
abbrev pub DeltaRefusedIsNoFront : Type 0
DeltaRefusedIsNoFront = (bytes more base text whole : List ℕ) (f : DeltaFault) → stream_of base bytes ≡ Refuses text f → IsDelta (bytes ++ more) base whole → ⊥
