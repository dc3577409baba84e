-- A disk in memory: what its calls do, and what a stop may leave after them.
use Rattle.std.specs.Prelude.{◌≡◌, ◌≤◌, ℕ, List, [], ◌∷◌, length, take, replicate, nat_le, if◌then◌else◌}
use Rattle.fleet_disk.specs.declared.disk.DiskFile.{DiskFile}
use Rattle.fleet_disk.specs.declared.disk.DiskFile.TheVariants.{Journal, Gate, Slots}
use Rattle.fleet_disk.specs.declared.call.DiskCall.{DiskCall}
use Rattle.fleet_disk.specs.declared.call.DiskCall.TheVariants.{Read, Len, Write, Cut, Sync}
use Rattle.fleet_disk.specs.declared.call.Pick.{Pick}
use Rattle.fleet_disk.specs.declared.call.Pick.TheVariants.{Old, New, Fill}
use Rattle.fleet_disk.specs.Image.{Image}
use Rattle.fleet_disk.specs.Rules.{overwritten, Torn, CutBack, OnFile}

-- a write up to the end or past it; one that begins past the end does nothing
abbrev pub written : ℕ → List ℕ → List ℕ → List ℕ
written at bytes old = if nat_le at (length old) then overwritten at bytes old else old

-- one file changed, and the others as they were
abbrev pub on_file : DiskFile → (List ℕ → List ℕ) → Image → Image
on_file Journal f image = record { journal = f image.journal; gate = image.gate; slots = image.slots }
on_file Gate f image = record { journal = image.journal; gate = f image.gate; slots = image.slots }
on_file Slots f image = record { journal = image.journal; gate = image.gate; slots = f image.slots }

-- what a read gives after a call
abbrev pub does : DiskCall → Image → Image
does (Write file at bytes) image = on_file file (written at bytes.items) image
does (Cut file len) image = on_file file (take len) image
does (Read file at len) image = image
does (Len file) image = image
does Sync image = image

-- what a read gives after these calls, the first of them first
abbrev pub read_after : Image → List DiskCall → Image
read_after image [] = image
read_after image (call ∷ calls) = read_after (does call image) calls

-- after a call, where a read gave `read`, a stop that could leave the old image may leave the new one
abbrev pub MayStep : DiskCall → Image → Image → Image → Type 0
MayStep (Write file at bytes) read old new = OnFile file (Torn at (length bytes.items)) old new
MayStep (Cut file len) read old new = OnFile file (CutBack len) old new
MayStep (Read file at len) read old new = new ≡ old
MayStep (Len file) read old new = new ≡ old
MayStep Sync read old new = new ≡ read

-- after these calls a stop may leave this image, from one that could be left before them
abbrev pub Leaves : Image → Image → List DiskCall → Image → Type 0
Leaves left read [] image = image ≡ left
Leaves left read (call ∷ calls) image = (next : Image) × MayStep call read left next × Leaves next (does call read) calls image

-- a stop at some moment since the call of this number may have left the image
abbrev pub LeftSince : Image → List DiskCall → ℕ → Image → Type 0
LeftSince first calls t image = (k : ℕ) × (t ≤ k) × (k ≤ length calls) × Leaves first first (take k calls) image

-- the image that a pick leaves after one more call: of a write nothing, all of it, or a byte in its place
abbrev pub pick_step : Pick → DiskCall → Image → Image → Image
pick_step Old (Write file at bytes) read left = left
pick_step New (Write file at bytes) read left = on_file file (written at bytes.items) left
pick_step (Fill byte) (Write file at bytes) read left = on_file file (written at (replicate (length bytes.items) byte)) left
pick_step Old (Cut file len) read left = left
pick_step New (Cut file len) read left = on_file file (take len) left
pick_step (Fill byte) (Cut file len) read left = left
pick_step pick (Read file at len) read left = left
pick_step pick (Len file) read left = left
pick_step pick Sync read left = read

-- the image that a pick leaves after these calls
abbrev pub picked : Pick → Image → Image → List DiskCall → Image
picked pick left read [] = left
picked pick left read (call ∷ calls) = picked pick (pick_step pick call read left) (does call read) calls
