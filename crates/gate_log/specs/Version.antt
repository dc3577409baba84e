-- What a version of a log decides, each word by its cases, and which version an image has.
use Rattle.std.specs.Prelude.{◌≡◌, ◌≢◌, ◌⊎◌, ◌<◌, ◌≤◌, ◌*◌, ℕ, List, [], length, get_or}
use Rattle.md5.specs.Md5.{md5}
use Rattle.fleet_disk.specs.declared.disk.DiskFile.{DiskFile}
use Rattle.fleet_disk.specs.declared.disk.DiskFile.TheVariants.{Gate, Slots}
use Rattle.fleet_disk.specs.Image.{Image, bytes_of}
use Rattle.gate_log.specs.declared.version.LogVersion.{LogVersion}
use Rattle.gate_log.specs.declared.version.LogVersion.TheVariants.{First, Second}

-- the file that has the gates
abbrev pub file_of : LogVersion → DiskFile
file_of First = Gate
file_of Second = Slots

-- and its bytes
abbrev pub gates_of : LogVersion → Image → List ℕ
gates_of version image = bytes_of (file_of version) image

-- the bytes of the other one, which an upgrade leaves
abbrev pub others_of : LogVersion → Image → List ℕ
others_of First image = image.slots
others_of Second image = image.gate

-- the sum of an entry, where the layout has one
abbrev pub sum_of : LogVersion → List ℕ → List ℕ
sum_of First entry = []
sum_of Second entry = md5 entry

-- how many bytes a sum has
abbrev pub sum_size : LogVersion → ℕ
sum_size First = 0
sum_size Second = 16

-- how many bytes a slot has; as many as a mark and the next gate
abbrev pub slot_size : LogVersion → ℕ
slot_size First = 9
slot_size Second = 25

-- where the gate of an entry stands
abbrev pub gate_place : LogVersion → ℕ → ℕ
gate_place First entry = 9 * entry
gate_place Second entry = 25 * entry

-- `slots` begins with an open gate, and has a whole slot and one more gate
abbrev pub IsBegun : List ℕ → Type 0
IsBegun slots = (26 ≤ length slots) × (get_or slots 0 0 ≡ 1)

-- An image is of the second version where `slots` is begun, and, as long as there is no entry, where `gate` is empty and `slots` begins with a closed gate.
abbrev pub IsSecond : Image → Type 0
IsSecond image = IsBegun image.slots ⊎ ((image.gate ≡ []) × (0 < length image.slots) × (get_or image.slots 0 0 ≢ 1))

-- Any other is of the first.
abbrev pub IsOf : LogVersion → Image → Type 0
IsOf First image = ¬ IsSecond image
IsOf Second image = IsSecond image

-- both are of one version
abbrev pub HaveOneVersion : Image → Image → Type 0
HaveOneVersion first image = (version : LogVersion) × IsOf version first × IsOf version image

-- the journal and the gates stay, and of the first version all
abbrev pub IsBeside : LogVersion → Image → Image → Type 0
IsBeside First old new = new ≡ old
IsBeside Second old new = (new.journal ≡ old.journal) × (new.slots ≡ old.slots)

-- the bytes of the other file say nothing: `slots` isn't begun, or `gate` is empty
abbrev pub IsIdle : LogVersion → List ℕ → Type 0
IsIdle First slots = ¬ IsBegun slots
IsIdle Second gate = gate ≡ []

-- what an opening leaves of the other file: all of `slots`, or nothing of `gate`
abbrev pub IsCleared : LogVersion → Image → Image → Type 0
IsCleared First old new = new.slots ≡ old.slots
IsCleared Second old new = new.gate ≡ []
