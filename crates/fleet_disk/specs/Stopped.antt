-- The facts of a disk in memory.
use Rattle.std.specs.Prelude.{◌≡◌, ◌≤◌, ℕ, List, [], ◌∷◌, ◌++◌, Vec, length, Result, OnErr, OnOk, ⊤}
use Rattle.std.specs.declared.alloc.Global.{Global}
use Rattle.fleet_disk.specs.declared.disk.DiskFault.{DiskFault}
use Rattle.fleet_disk.specs.declared.disk.DiskFile.{DiskFile}
use Rattle.fleet_disk.specs.declared.memory.MemDisk.{MemDisk}
use Rattle.fleet_disk.specs.declared.call.DiskCall.{DiskCall}
use Rattle.fleet_disk.specs.declared.call.DiskCall.TheVariants.{Write}
use Rattle.fleet_disk.specs.declared.call.Pick.{Pick}
use Rattle.fleet_disk.specs.Contents.{image_of}
use Rattle.fleet_disk.specs.Image.{Image}
use Rattle.fleet_disk.specs.Memory.{on_file, picked, written, Leaves, LeftSince}
use Rattle.fleet_disk.specs.Rules.{Goes, Rose, Stays}

-- the calls that it remembers, the first of them first
abbrev pub calls_of : MemDisk → List DiskCall
calls_of disk = disk.calls.items

-- what its reads give
abbrev pub now_of : MemDisk → Image
now_of disk = image_of disk.files

-- how often a growth was refused in it
abbrev failures_of : MemDisk → ℕ
failures_of disk = disk.failures

-- a stop may leave this image of it
abbrev pub MayLeave : MemDisk → Image → Type 0
MayLeave disk image = Leaves (image_of disk.first) (image_of disk.first) disk.calls.items image

-- the image that a pick leaves of it
abbrev pub picked_of : Pick → MemDisk → Image
picked_of pick disk = picked pick (image_of disk.first) (image_of disk.first) disk.calls.items

-- a stop at some moment since the call of this number may have left this image of it
abbrev pub WasLeft : MemDisk → ℕ → Image → Type 0
WasLeft disk t image = LeftSince (image_of disk.first) disk.calls.items t image

-- a call changes nothing of it, whose rules are always kept
abbrev pub StaysIn : {T : Type 0} → MemDisk → MemDisk → Result T DiskFault → Type 0
StaysIn old new result = Stays (λ disk. ⊤) now_of MayLeave (λ disk. length (calls_of disk)) WasLeft failures_of old new result

-- and a call changes a file
abbrev pub GoesIn : {T : Type 0} → MemDisk → MemDisk → Result T DiskFault → Type 0
GoesIn old new result = Goes (λ disk. ⊤) MayLeave (λ disk. length (calls_of disk)) WasLeft failures_of old new result

-- it remembers one call more, where it was answered Ok
pub record Remembers {T : Type 0} (call : DiskCall) (old new : MemDisk) (result : Result T DiskFault) : Type 0 where
  pub ok : OnOk result (calls_of new ≡ calls_of old ++ call ∷ [])
  pub err : OnErr result (calls_of new ≡ calls_of old)

-- and so of a write of these bytes there
pub record RemembersWrite {T : Type 0} (file : DiskFile) (at : ℕ) (bytes : List ℕ) (old new : MemDisk) (result : Result T DiskFault) : Type 0 where
  pub ok : OnOk result ((kept : Vec ℕ Global) × (kept.items ≡ bytes) × (calls_of new ≡ calls_of old ++ Write file at kept ∷ []))
  pub err : OnErr result (calls_of new ≡ calls_of old)

-- it has files of these bytes, and remembers no call
pub record IsNew (journal gate slots : List ℕ) (disk : MemDisk) : Type 0 where
  pub journal_is : (now_of disk).journal ≡ journal
  pub gate_is : (now_of disk).gate ≡ gate
  pub slots_is : (now_of disk).slots ≡ slots
  pub calls : calls_of disk ≡ []

-- a failure of it is counted
pub record Fails (old new : MemDisk) : Type 0 where
  pub rose : Rose old.failures new.failures
  pub later : old.failures ≤ new.failures
  pub first : new.first ≡ old.first
  pub files : new.files ≡ old.files
  pub calls : new.calls ≡ old.calls

-- it wrote these bytes there and remembers it, or, where memory was refused, changed nothing
pub record Writes {T E : Type 0} (file : DiskFile) (at : ℕ) (bytes : List ℕ) (old new : MemDisk) (result : Result T E) : Type 0 where
  pub ok : OnOk result ((kept : Vec ℕ Global) × (kept.items ≡ bytes) × (calls_of new ≡ calls_of old ++ Write file at kept ∷ []) × (now_of new ≡ on_file file (written at bytes) (now_of old)))
  pub err : OnErr result ((calls_of new ≡ calls_of old) × (now_of new ≡ now_of old))
  pub first : new.first ≡ old.first
  pub failures : new.failures ≡ old.failures
