-- What the calls of a log leave, and why they are refused.
use Rattle.std.specs.Prelude.{◌≡◌, ◌≢◌, ◌⊎◌, ◌<◌, ◌≤◌, ◌↔◌, ◌++◌, ◌∷◌, [], ℕ, List, Result, IsErrOf, length}
use Rattle.fleet_disk.specs.Image.{no_bytes}
use Rattle.fleet_disk.specs.Rules.{Only}
use Rattle.fleet_disk.specs.declared.disk.Disk.{Ghosts}
use Rattle.gate_log.specs.Device.{IsFailure, MaySettleAs, SettlesAs}
use Rattle.gate_log.specs.Faults.{IsAppendFault, IsCreateFault, IsFindFault, IsLogFault, IsReadFault}
use Rattle.gate_log.specs.Log.{disk_left, disk_of, version_of, ends_of, entries_of, entry_of, image_of}
use Rattle.gate_log.specs.Log.{FailsBy, FailsOf, HasFailed, HasRoom, IsHonest, IsUntouched, Lasts, WhileWorking, LeavesAfter, LeavesBetween}
use Rattle.gate_log.specs.Looks.{Looks}
use Rattle.gate_log.specs.Standing.{ends_with, IsAdded, IsCutBack, IsDamagedAt, IsEither, IsJustBegun, HasNoEntry, OfEntries, Stands, StandsAs}
use Rattle.gate_log.specs.Upgrade.{IsMigrationFault, IsUpgraded}
use Rattle.gate_log.specs.Version.{IsOf}
use Rattle.gate_log.specs.declared.log.GateLog.{GateLog}
use Rattle.gate_log.specs.declared.log.Receipt.{Receipt}
use Rattle.gate_log.specs.declared.version.LogVersion.TheVariants.{First, Second}
use Rattle.gate_log.specs.declared.fault.LogFault.{LogFault}
use Rattle.gate_log.specs.declared.fault.LogFault.TheVariants.{Damaged, DeviceFailed, Failed, NoRepository, OutOfMemory, ThereAlready}

-- a call that makes a log of a disk or hands it back: the disk keeps the rules where it kept them, the count of its failures doesn't fall, and 31 comes only where it rose
pub record HandsOn {D : Type 0} (G : Ghosts D) (disk : D) (result : Result (GateLog D G) (LogFault × D)) : Type 0 where
  pub honest : G.honest disk ↔ G.honest (disk_left result)
  pub later : G.failures disk ≤ G.failures (disk_left result)
  pub device : FailsOf G disk result

-- a call of a log: its disk keeps the rules where it kept them, and the count of failures doesn't fall; 32 comes exactly where the log has failed, and 31 only where the count rose: then it has failed
pub record ActsIn {D T : Type 0} {G : Ghosts D} (old new : GateLog D G) (result : Result T LogFault) : Type 0 where
  pub honest : IsHonest old ↔ IsHonest new
  pub later : G.failures (disk_of old) ≤ G.failures (disk_of new)
  pub device : IsFailure G (disk_of old) (disk_of new) result
  pub failed : IsErrOf result Failed ↔ HasFailed old
  pub working : FailsBy old new result

-- a log that is begun on a disk of empty files: it has no entry, is of the second version, and its first append takes no memory
pub record IsCreated {D : Type 0} (G : Ghosts D) (disk : D) (log : GateLog D G) : Type 0 where
  pub empty : G.honest disk → G.reads disk ≡ no_bytes
  pub ends : ends_of log ≡ []
  pub working : ¬ HasFailed log
  pub files : G.honest disk → IsJustBegun (image_of log)
  pub version : version_of log ≡ Second
  pub durable : G.honest disk → LeavesAfter log (λ c. Stands c [])
  pub room : HasRoom log

-- why none is begun, and what is left of the disk: one with something on it is looked at alone, and at 70 it is the very one
pub record NotCreated {D : Type 0} (G : Ghosts D) (disk : D) (e : LogFault × D) : Type 0 where
  pub there : G.honest disk → e.0 ≡ ThereAlready → G.reads disk ≢ no_bytes
  pub looks : G.honest disk → G.reads disk ≢ no_bytes → Looks G disk e.1
  pub memory : e.0 ≡ OutOfMemory → e.1 ≡ disk
  pub no_other : IsCreateFault e.0

-- the log that is opened on a disk: that of the entries that stand in what a read gives, of its version, with what is behind them cut
pub record IsOpened {D : Type 0} (G : Ghosts D) (disk : D) (log : GateLog D G) : Type 0 where
  pub found : G.honest disk → OfEntries (G.reads disk) (λ entries. entries_of log ≡ entries)
  pub stands : G.honest disk → Stands (G.reads disk) (entries_of log)
  pub some : 0 < length (entries_of log)
  pub working : ¬ HasFailed log
  pub files : G.honest disk → IsCutBack (version_of log) (ends_of log) (G.reads disk) (image_of log)
  pub version : G.honest disk → IsOf (version_of log) (G.reads disk)
  pub durable : G.honest disk → Lasts log
  -- from some moment on a stop leaves what stands for the same
  pub settles : G.honest disk → SettlesAs G disk (disk_of log) (StandsAs (G.reads disk))

-- why none is opened, and what is left of the disk: unless it failed it was looked at alone, and a stop leaves what a read gave
pub record NotOpened {D : Type 0} (G : Ghosts D) (disk : D) (e : LogFault × D) : Type 0 where
  pub due : G.honest disk → OfEntries (G.reads disk) (λ entries. IsReadFault e.0)
  pub damaged : G.honest disk → (entry : ℕ) → e.0 ≡ Damaged entry → IsDamagedAt entry (G.reads disk)
  pub missing : G.honest disk → e.0 ≡ NoRepository → HasNoEntry (G.reads disk)
  pub no_other : IsFindFault e.0
  pub settles : G.honest disk → MaySettleAs G disk e.1 (StandsAs (G.reads disk))
  pub kept : G.honest disk → (e.0 ≡ DeviceFailed) ⊎ Only (G.reads disk) (G.may_leave e.1)
  pub looks : G.honest disk → (e.0 ≡ DeviceFailed) ⊎ Looks G disk e.1

-- an entry is added: it stands behind the others, in each image that a stop leaves too, and the receipt has its number
pub record IsAppended {D : Type 0} {G : Ghosts D} (bytes : List ℕ) (old new : GateLog D G) (receipt : Receipt) : Type 0 where
  pub added : IsHonest old → entries_of new ≡ entries_of old ++ bytes ∷ []
  pub ends : ends_of new ≡ ends_with (ends_of old) bytes
  pub files : IsHonest old → IsAdded (version_of old) (ends_of new) bytes (image_of old) (image_of new)
  pub number : entry_of receipt ≡ length (entries_of old)
  pub durable : IsHonest old → LeavesAfter new (λ c. Stands c (entries_of old ++ bytes ∷ []))

-- why none is added: the entries stay, and unless the device fails the disk too
pub record NotAppended {D : Type 0} {G : Ghosts D} (old new : GateLog D G) (e : LogFault) : Type 0 where
  pub memory : e ≡ OutOfMemory → ¬ HasRoom old
  pub no_other : IsAppendFault e
  pub kept : ends_of new ≡ ends_of old
  pub untouched : (e ≡ DeviceFailed) ⊎ IsUntouched old new

-- at each moment of an append a stop leaves the old entries, or these and the new one; of a log that has failed it leaves what it could leave before
pub record AppendsThrough {D : Type 0} {G : Ghosts D} (bytes : List ℕ) (old new : GateLog D G) : Type 0 where
  pub working : WhileWorking old (LeavesBetween old new (IsEither (entries_of old) bytes))
  pub failed : IsHonest old → HasFailed old → LeavesBetween old new (G.may_leave (disk_of old))

-- a log is of the second version: it was made one of so many entries, or it was one, and nothing was done
pub record IsMadeSecond {D : Type 0} {G : Ghosts D} (old new : GateLog D G) (n : ℕ) : Type 0 where
  pub version : version_of new ≡ Second
  pub count : version_of old ≡ First → n ≡ length (ends_of old)
  pub files : IsHonest old → version_of old ≡ First → IsUpgraded (ends_of old) (image_of old) (image_of new)
  pub already : version_of old ≡ Second → (disk_of new ≡ disk_of old) × (n ≡ 0)

-- why it isn't made one: the version stays, and unless the device fails or has failed the disk was looked at alone
pub record StaysFirst {D : Type 0} {G : Ghosts D} (old new : GateLog D G) (e : LogFault) : Type 0 where
  pub kept : version_of new ≡ version_of old
  pub already : version_of old ≡ Second → disk_of new ≡ disk_of old
  pub looks : (e ≡ DeviceFailed) ⊎ (e ≡ Failed) ⊎ Looks G (disk_of old) (disk_of new)
  pub no_other : IsHonest old → IsLogFault e
  pub faults : (e ≡ Failed) ⊎ IsMigrationFault (length (ends_of old)) e

-- a call keeps the entries, and while the log works a stop at any moment of it, and behind it, leaves what stands for them; a log that has failed is left alone
pub record KeepsEntries {D : Type 0} {G : Ghosts D} (old new : GateLog D G) : Type 0 where
  pub ends : ends_of new ≡ ends_of old
  pub same : IsHonest old → entries_of new ≡ entries_of old
  pub any_moment : WhileWorking old (LeavesBetween old new (λ c. Stands c (entries_of old)))
  pub durable : WhileWorking old (LeavesAfter new (λ c. Stands c (entries_of old)))
  pub failed : HasFailed old → disk_of new ≡ disk_of old
