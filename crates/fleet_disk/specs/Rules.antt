-- The rules of a disk: what each call does to what a read gives, and to what a stop may leave.
use Rattle.std.specs.Prelude.{◌<◌, ◌≡◌, ◌⊎◌, ◌↔◌, ℕ, ◌+◌, ◌-◌, ◌≤◌, ◌^◌, min, max, List, ◌++◌, length, take, drop, Result, OnErr}
use Rattle.fleet_disk.specs.declared.disk.DiskFile.{DiskFile}
use Rattle.fleet_disk.specs.declared.disk.DiskFile.TheVariants.{Journal, Gate, Slots}
use Rattle.fleet_disk.specs.declared.disk.DiskFault.{DiskFault}
use Rattle.fleet_disk.specs.Image.{Image}

-- these bytes in place of the old ones, from an offset on
abbrev pub overwritten : ℕ → List ℕ → List ℕ → List ℕ
overwritten at bytes old = take at old ++ bytes ++ drop (at + length bytes) old

-- a read of n bytes from an offset on into a buffer: none is made up, and there is one where both go on
pub record IsRead (file : List ℕ) (at n : ℕ) (before after : List ℕ) : Type 0 where
  pub within : n ≤ length before
  pub inside : n ≤ length file - at
  pub bytes : after ≡ take n (drop at file) ++ drop n before
  pub some : at < length file → 0 < length before → 0 < n

-- after a write of n bytes that isn't synced yet: any bytes in its range, other bytes stay, a length from the old one to the new one
pub record Torn (at n : ℕ) (old new : List ℕ) : Type 0 where
  pub before : take at new ≡ take at old
  pub after : drop (at + n) new ≡ drop (at + n) old
  pub no_shorter : length old ≤ length new
  pub no_longer : length new ≤ max (length old) (at + n)

-- after a cut to n bytes that isn't synced yet: a length from the new one to the old one, and no byte changes
pub record CutBack (n : ℕ) (old new : List ℕ) : Type 0 where
  pub no_shorter : min n (length old) ≤ length new
  pub front : take (length new) old ≡ new

-- one file goes on by a step, and the others stay
abbrev pub OnFile : DiskFile → (List ℕ → List ℕ → Type 0) → Image → Image → Type 0
OnFile Journal step old new = step old.journal new.journal × (new.gate ≡ old.gate) × (new.slots ≡ old.slots)
OnFile Gate step old new = step old.gate new.gate × (new.journal ≡ old.journal) × (new.slots ≡ old.slots)
OnFile Slots step old new = step old.slots new.slots × (new.journal ≡ old.journal) × (new.gate ≡ old.gate)

-- each image that a stop may leave now is one that it could leave before, after a step
abbrev pub Follows : (Image → Image → Type 0) → (Image → Type 0) → (Image → Type 0) → Type 0
Follows step old new = (c : Image) → new c → (d : Image) × old d × step d c

-- nothing is left that couldn't be left before
abbrev pub Within : (Image → Type 0) → (Image → Type 0) → Type 0
Within new old = (c : Image) → new c → old c

-- a stop leaves this image and no other
abbrev pub Only : Image → (Image → Type 0) → Type 0
Only image left = (c : Image) → left c → c ≡ image

-- Time goes on: since t a stop might have left what it might have left before, or what it may leave now.
pub record Elapses (before now : ℕ) (past since : ℕ → Image → Type 0) (may_leave : Image → Type 0) : Type 0 where
  pub later : before ≤ now
  pub nothing_else : (t : ℕ) (c : Image) → t ≤ before → since t c → past t c ⊎ may_leave c
  pub keeps : (t : ℕ) (c : Image) → t ≤ before → past t c → since t c

-- of what keeps the rules time goes on from before a call to behind it
abbrev pub GoesBy : {D : Type 0} → (D → Type 0) → (D → ℕ) → (D → ℕ → Image → Type 0) → (D → Image → Type 0) → D → D → Type 0
GoesBy honest clock left_since may_leave old new = honest old → Elapses (clock old) (clock new) (left_since old) (left_since new) (may_leave new)

-- A stop at any moment since old leaves an image that has P.
pub record LeavesOnly {D : Type 0} (clock : D → ℕ) (left_since : D → ℕ → Image → Type 0) (old new : D) (P : Image → Type 0) : Type 0 where
  pub later : clock old ≤ clock new
  pub each : (c : Image) → left_since new (clock old) c → P c
  -- for a run of calls that began earlier
  pub before : (t : ℕ) (c : Image) → t ≤ clock old → left_since new t c → left_since old t c ⊎ P c

-- At some moment from old to new the disk was `settled`: a stop up to there leaves what it could leave at first, and one from there on an image that has P.
pub record Settles {D : Type 0} (may_leave : D → Image → Type 0) (clock : D → ℕ) (left_since : D → ℕ → Image → Type 0) (old new : D) (P : Image → Type 0) : Type 0 where
  pub settled : D
  pub until : LeavesOnly clock left_since old settled (may_leave old)
  pub since : LeavesOnly clock left_since settled new P

-- the failure count rose; at its greatest it counts as risen
abbrev pub Rose : ℕ → ℕ → Type 0
Rose before now = (before < now) ⊎ (2 ^ 64 ≤ now + 1)

-- the count doesn't fall, and a refusal comes only where it rose
pub record HasCause {T : Type 0} (before now : ℕ) (result : Result T DiskFault) : Type 0 where
  pub later : before ≤ now
  pub failed : OnErr result (Rose before now)

-- A call that changes nothing: where the rules are kept, a read gives the same, a stop leaves nothing else, and time goes on. The rules stay kept or broken, and a refusal comes only where the failures rose.
pub record Stays {D T : Type 0} (rules : D → Type 0) (image : D → Image) (may_leave : D → Image → Type 0) (clock : D → ℕ) (left_since : D → ℕ → Image → Type 0) (failures : D → ℕ) (old new : D) (result : Result T DiskFault) : Type 0 where
  pub reads : rules old → image new ≡ image old
  pub left : rules old → Within (may_leave new) (may_leave old)
  pub time : GoesBy rules clock left_since may_leave old new
  pub honest : rules old ↔ rules new
  pub cause : HasCause (failures old) (failures new) result

-- A call that changes a file: where the rules are kept, time goes on. The rules stay kept or broken, and a refusal comes only where the failures rose.
pub record Goes {D T : Type 0} (rules : D → Type 0) (may_leave : D → Image → Type 0) (clock : D → ℕ) (left_since : D → ℕ → Image → Type 0) (failures : D → ℕ) (old new : D) (result : Result T DiskFault) : Type 0 where
  pub time : GoesBy rules clock left_since may_leave old new
  pub honest : rules old ↔ rules new
  pub cause : HasCause (failures old) (failures new) result
