-- What a log is to its caller.
use Rattle.std.specs.Prelude.{◌≡◌, ◌⊎◌, ◌<◌, ◌+◌, ◌^◌, ◌↔◌, ℕ, List, Result, Ok, Err, IfErr, vec_len, vec_capacity, IsTrue, IsErrOf}
use Rattle.fleet_disk.specs.Image.{Image}
use Rattle.fleet_disk.specs.declared.disk.Disk.{Ghosts}
use Rattle.fleet_disk.specs.Rules.{Rose}
use Rattle.gate_log.specs.declared.log.GateLog.{GateLog}
use Rattle.gate_log.specs.declared.version.LogVersion.{LogVersion}
use Rattle.gate_log.specs.declared.log.Receipt.{Receipt}
use Rattle.gate_log.specs.Looks.{Looks}
use Rattle.gate_log.specs.Standing.{last_end, parts, Stands}
use Rattle.gate_log.specs.Device.{Leaves, LeavesNow}
use Rattle.gate_log.specs.declared.fault.LogFault.{LogFault}
use Rattle.gate_log.specs.declared.fault.LogFault.TheVariants.{DeviceFailed}

-- the disk that it is kept on
abbrev pub disk_of : {D : Type 0} {G : Ghosts D} → GateLog D G → D
disk_of log = log.disk

-- its layout
abbrev pub version_of : {D : Type 0} {G : Ghosts D} → GateLog D G → LogVersion
version_of log = log.version

-- the journal's length behind each entry
abbrev pub ends_of : {D : Type 0} {G : Ghosts D} → GateLog D G → List ℕ
ends_of log = log.ends.items

-- how many bytes its entries have
abbrev pub size_of : {D : Type 0} {G : Ghosts D} → GateLog D G → ℕ
size_of log = last_end 0 log.ends.items

-- its entries, as the disk's reads give them
abbrev pub entries_of : {D : Type 0} {G : Ghosts D} → GateLog D G → List (List ℕ)
entries_of {G} log = parts 0 log.ends.items (G.reads log.disk).journal

-- the disk that is left by a call that makes a log of a disk or hands it back
abbrev pub disk_left : {D : Type 0} {G : Ghosts D} → Result (GateLog D G) (LogFault × D) → D
disk_left (Ok log) = log.disk
disk_left (Err refused) = refused.1

-- what that disk gives
abbrev pub image_of : {D : Type 0} {G : Ghosts D} → GateLog D G → Image
image_of {G} log = G.reads log.disk

-- that disk keeps the rules
abbrev pub IsHonest : {D : Type 0} {G : Ghosts D} → GateLog D G → Type 0
IsHonest {G} log = G.honest log.disk

-- a stop leaves an image that has P
abbrev pub LeavesAfter : {D : Type 0} {G : Ghosts D} → GateLog D G → (Image → Type 0) → Type 0
LeavesAfter {G} log P = LeavesNow G log.disk P

-- a stop leaves its entries
abbrev pub Lasts : {D : Type 0} {G : Ghosts D} → GateLog D G → Type 0
Lasts log = LeavesAfter log (λ c. Stands c (entries_of log))

-- a stop at any moment between leaves an image that has P
abbrev pub LeavesBetween : {D : Type 0} {G : Ghosts D} → GateLog D G → GateLog D G → (Image → Type 0) → Type 0
LeavesBetween {G} old new P = Leaves G old.disk new.disk P

-- the device failed in a call of it
abbrev pub HasFailed : {D : Type 0} {G : Ghosts D} → GateLog D G → Type 0
HasFailed log = IsTrue log.failed

-- P, as long as its disk keeps the rules and no call has failed
abbrev pub WhileWorking : {D : Type 0} {G : Ghosts D} → GateLog D G → Type 0 → Type 0
WhileWorking log P = IsHonest log → ¬ HasFailed log → P

-- the next append takes no memory
abbrev pub HasRoom : {D : Type 0} {G : Ghosts D} → GateLog D G → Type 0
HasRoom log = vec_len log.ends < vec_capacity log.ends

-- the number of the entry that a receipt is for
abbrev pub entry_of : Receipt → ℕ
entry_of receipt = receipt.entry

-- a call has only looked in a log: it ends where it ended, in its layout, and its disk was only looked at
pub record LooksIn {D : Type 0} {G : Ghosts D} (old new : GateLog D G) : Type 0 where
  pub ends : ends_of new ≡ ends_of old
  pub version : version_of new ≡ version_of old
  pub looks : Looks G (disk_of old) (disk_of new)

-- so many bytes more aren't taken, though nothing failed
abbrev pub IsFull : {D : Type 0} {G : Ghosts D} → GateLog D G → ℕ → Type 0
IsFull log count = ¬ HasFailed log × (2 ^ 56 < size_of log + count)

-- a call that failed by the device leaves a log that has failed, and no other does
abbrev pub FailsBy : {D T : Type 0} {G : Ghosts D} → GateLog D G → GateLog D G → Result T LogFault → Type 0
FailsBy old new result = HasFailed new ↔ (HasFailed old ⊎ IsErrOf result DeviceFailed)

-- a refusal that isn't the device's leaves the disk and the ends
abbrev pub IsUntouched : {D : Type 0} {G : Ghosts D} → GateLog D G → GateLog D G → Type 0
IsUntouched old new = (disk_of new ≡ disk_of old) × (ends_of new ≡ ends_of old)

-- a call that makes a log of a disk or hands it back answers 31 only where the count of failures rose
abbrev pub FailsOf : {D : Type 0} → (G : Ghosts D) → D → Result (GateLog D G) (LogFault × D) → Type 0
FailsOf G disk result = IfErr result (λ e. e.0 ≡ DeviceFailed → Rose (G.failures disk) (G.failures e.1))
