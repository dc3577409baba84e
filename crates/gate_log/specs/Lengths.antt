-- The lengths of a log's files.
use Rattle.std.specs.Prelude.{◌≡◌, ◌≤◌, ◌<◌, ◌+◌, ℕ, Option, None, IfSome, length, take, drop}
use Rattle.fleet_disk.specs.Image.{Image}
use Rattle.fleet_disk.specs.declared.disk.Disk.{Ghosts}
use Rattle.gate_log.specs.declared.find.Lengths.{Lengths}
use Rattle.gate_log.specs.declared.version.LogVersion.{LogVersion}
use Rattle.gate_log.specs.Slots.{part}
use Rattle.gate_log.specs.Standing.{IsOpenAt, IsSlotAt}
use Rattle.gate_log.specs.Version.{gates_of, sum_of, slot_size, sum_size}

-- these are those of an image
abbrev pub AreLengths : Lengths → Image → Type 0
AreLengths lengths image = (lengths.journal ≡ length image.journal) × (lengths.gates ≡ length (gates_of lengths.version image))

-- P of what an honest disk gives, where these are its lengths
abbrev pub OfLengths : {D : Type 0} → Ghosts D → D → Lengths → (Image → Type 0) → Type 0
OfLengths G disk lengths P = G.honest disk → AreLengths lengths (G.reads disk) → P (G.reads disk)

-- P of an honest disk whose journal has so many bytes
abbrev pub HavingBytes : {D : Type 0} → Ghosts D → D → ℕ → Type 0 → Type 0
HavingBytes G disk count P = G.honest disk → count ≤ length (G.reads disk).journal → P

-- P of what an honest disk gives, where its gates and its journal have the bytes of a sum at this place and of its entry
abbrev pub HavingSum : {D : Type 0} → Ghosts D → D → LogVersion → ℕ → ℕ → (Image → Type 0) → Type 0
HavingSum G disk version at end P = G.honest disk → at + sum_size version ≤ length (gates_of version (G.reads disk))
    → end ≤ length (G.reads disk).journal → P (G.reads disk)

-- the sum at this place of the gates is that of the journal's part
abbrev pub IsSumAt : LogVersion → ℕ → ℕ → ℕ → Image → Type 0
IsSumAt version at from end image = take (sum_size version) (drop at (gates_of version image)) ≡ sum_of version (part from end image.journal)

-- an entry that ends there has its slot and the next gate within these lengths
abbrev pub EndsWithin : Lengths → ℕ → ℕ → ℕ → Type 0
EndsWithin lengths at from end = (from < end) × (end ≤ lengths.journal) × (at + slot_size lengths.version < lengths.gates)

-- what is found at a gate: it isn't open, or it is and this entry's slot is behind it
abbrev pub IsNext : LogVersion → ℕ → ℕ → Image → Option ℕ → Type 0
IsNext version at from image found = (found ≡ None → ¬ IsOpenAt version at image)
    × IfSome found (λ end. IsOpenAt version at image × IsSlotAt version at from end image)
