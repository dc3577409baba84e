-- Which entries stand in an image.
use Rattle.std.specs.Prelude.{◌≡◌, ◌≢◌, ◌⊎◌, ◌<◌, ◌≤◌, ◌+◌, ◌^◌, ℕ, List, [], ◌∷◌, ◌++◌, Result, IsErrOf, length, take, drop, get_or}
use Rattle.fleet_disk.specs.Image.{Image}
use Rattle.fleet_disk.specs.declared.disk.Disk.{Ghosts}
use Rattle.gate_log.specs.declared.fault.LogFault.{LogFault}
use Rattle.gate_log.specs.declared.fault.LogFault.TheVariants.{Damaged, NoRepository}
use Rattle.gate_log.specs.declared.version.LogVersion.{LogVersion}
use Rattle.gate_log.specs.Version.{gates_of, others_of, gate_place, IsCleared, IsIdle, IsOf}
use Rattle.gate_log.specs.Slots.{part, mark, slots, gates_size}

-- the journal's length behind the last entry, where the first begins at `from`
abbrev pub last_end : ℕ → List ℕ → ℕ
last_end from [] = from
last_end from (end ∷ ends) = last_end end ends

-- each entry ends behind the one before
abbrev pub IsRising : ℕ → List ℕ → Type 0
IsRising from [] = Unit {0}
IsRising from (end ∷ ends) = (from < end) × IsRising end ends

-- the parts of the journal between the ends
abbrev pub parts : ℕ → List ℕ → List ℕ → List (List ℕ)
parts from [] journal = []
parts from (end ∷ ends) journal = part from end journal ∷ parts end ends journal

-- the ends with one more entry's behind them
abbrev pub ends_with : List ℕ → List ℕ → List ℕ
ends_with ends entry = ends ++ (last_end 0 ends + length entry) ∷ []

-- Entries with these ends stand: their gates are open, their lengths rise and stay within the journal, their sums are theirs, and the next gate is there and closed.
pub record StandsAt (version : LogVersion) (ends : List ℕ) (image : Image) : Type 0 where
  pub is : IsOf version image
  pub rising : IsRising 0 ends
  pub within : last_end 0 ends ≤ length image.journal
  pub fits : last_end 0 ends < 2 ^ 64
  pub next_gate : ℕ
  pub rest : List ℕ
  pub gates : gates_of version image ≡ slots version 0 ends image.journal ++ next_gate ∷ rest
  pub closed : next_gate ≢ 1

-- these entries stand, and no other
abbrev pub Stands : Image → List (List ℕ) → Type 0
Stands image entries = (version : LogVersion) × (ends : List ℕ) × StandsAt version ends image × (entries ≡ parts 0 ends image.journal)

-- the gate behind the entries
abbrev pub gate_behind : LogVersion → List ℕ → Image → ℕ
gate_behind version ends image = get_or (gates_of version image) (gate_place version (length ends)) 0

-- nothing but these entries is there, with a closed gate behind them
pub record IsAtRest (version : LogVersion) (ends : List ℕ) (image : Image) : Type 0 where
  pub fits : last_end 0 ends < 2 ^ 64
  pub journal : length image.journal ≡ last_end 0 ends
  pub gates : gates_of version image ≡ slots version 0 ends image.journal ++ gate_behind version ends image ∷ []
  pub closed : gate_behind version ends image ≢ 1
  pub idle : IsIdle version (others_of version image)

-- the entries stand, or these and one more
abbrev pub IsEither : List (List ℕ) → List ℕ → Image → Type 0
IsEither entries entry image = Stands image entries ⊎ Stands image (entries ++ entry ∷ [])

-- there is no open gate to begin with
abbrev pub HasNoEntry : Image → Type 0
HasNoEntry image = (version : LogVersion) × IsOf version image × (get_or (gates_of version image) 0 0 ≢ 1)

-- what stands behind the open gate of an entry that begins at `from`: a length above that and within the journal, the entry's sum, and the next gate
pub record IsSlot (version : LogVersion) (from end : ℕ) (journal behind : List ℕ) : Type 0 where
  pub rises : from < end
  pub within : end ≤ length journal
  pub fits : end < 2 ^ 64
  pub next_gate : ℕ
  pub rest : List ℕ
  pub bytes : behind ≡ mark version end (part from end journal) ++ next_gate ∷ rest

-- the gate at this place is open
abbrev pub IsOpenAt : LogVersion → ℕ → Image → Type 0
IsOpenAt version at image = get_or (gates_of version image) at 0 ≡ 1

-- a slot stands at this place of the gates
abbrev pub IsSlotAt : LogVersion → ℕ → ℕ → ℕ → Image → Type 0
IsSlotAt version at from end image = IsSlot version from end image.journal (drop (at + 1) (gates_of version image))

-- no slot stands at this place of the gates, whatever its end
abbrev pub NoSlotAt : LogVersion → ℕ → ℕ → Image → Type 0
NoSlotAt version at from image = (end : ℕ) → IsSlotAt version at from end image → ⊥

-- the entry of this number is the first whose length, sum or next gate breaks the format
pub record IsDamagedAt (entry : ℕ) (image : Image) : Type 0 where
  pub version : LogVersion
  pub is : IsOf version image
  pub ends : List ℕ
  pub count : length ends ≡ entry
  pub rising : IsRising 0 ends
  pub within : last_end 0 ends ≤ length image.journal
  pub fits : last_end 0 ends < 2 ^ 64
  pub rest : List ℕ
  pub gates : gates_of version image ≡ slots version 0 ends image.journal ++ 1 ∷ rest
  pub breaks : (end : ℕ) → IsSlot version (last_end 0 ends) end image.journal rest → ⊥

-- the image stands for whatever the first stands for
abbrev pub StandsAs : Image → Image → Type 0
StandsAs first image = (entries : List (List ℕ)) → Stands first entries → Stands image entries

-- there is no entry, and one gate at most
abbrev pub IsBlank : Image → Type 0
IsBlank image = (image.journal ≡ []) × (image.gate ≡ []) × (length image.slots ≤ 1)

-- both stand for the same entries
abbrev pub StandsAlike : Image → Image → Type 0
StandsAlike first image = (entries : List (List ℕ)) × Stands first entries × Stands image entries

-- what is behind the entries is cut
abbrev pub IsCutBack : LogVersion → List ℕ → Image → Image → Type 0
IsCutBack version ends old new = (new.journal ≡ take (last_end 0 ends) old.journal)
    × (gates_of version new ≡ take (gates_size version (length ends)) (gates_of version old))
    × IsCleared version old new

-- these bytes are behind the journal, with their slot and a closed gate, and the other file is as it was
abbrev pub IsAdded : LogVersion → List ℕ → List ℕ → Image → Image → Type 0
IsAdded version ends entry old new = (new.journal ≡ old.journal ++ entry)
    × (gates_of version new ≡ slots version 0 ends new.journal ++ 0 ∷ [])
    × (others_of version new ≡ others_of version old)

-- P of whatever entries stand in an image, where there are some
abbrev pub OfEntries : Image → (List (List ℕ) → Type 0) → Type 0
OfEntries image P = (entries : List (List ℕ)) → Stands image entries → 0 < length entries → P entries

-- 33 comes with the first entry of an honest disk that breaks the format
abbrev pub FindsDamage : {D T : Type 0} → Ghosts D → D → Result T LogFault → Type 0
FindsDamage G disk result = G.honest disk → (entry : ℕ) → IsErrOf result (Damaged entry) → IsDamagedAt entry (G.reads disk)

-- 34 comes where an honest disk has no entry
abbrev pub FindsNone : {D T : Type 0} → Ghosts D → D → Result T LogFault → Type 0
FindsNone G disk result = G.honest disk → IsErrOf result NoRepository → HasNoEntry (G.reads disk)

-- nothing but the closed first gate of the second version is there
abbrev pub IsJustBegun : Image → Type 0
IsJustBegun image = (image.journal ≡ []) × (image.gate ≡ []) × (image.slots ≡ 0 ∷ [])

-- where some entries end, and the gates have room for their slots
abbrev pub AreEnds : LogVersion → List ℕ → Type 0
AreEnds version ends = (0 < length ends) × IsRising 0 ends × (gates_size version (length ends) < 2 ^ 64)
