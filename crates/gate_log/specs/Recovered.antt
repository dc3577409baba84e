-- What an opening finds on a disk and leaves there.
use Rattle.std.specs.Prelude.{◌≡◌, ◌⊎◌, Result, IfErr}
use Rattle.fleet_disk.specs.Image.{Image}
use Rattle.fleet_disk.specs.Rules.{Only}
use Rattle.fleet_disk.specs.declared.disk.Disk.{Ghosts}
use Rattle.gate_log.specs.Device.{LeavesOr}
use Rattle.gate_log.specs.Faults.{IsFindFault}
use Rattle.gate_log.specs.Looks.{Looks}
use Rattle.gate_log.specs.declared.fault.LogFault.{LogFault}
use Rattle.gate_log.specs.declared.fault.LogFault.TheVariants.{DeviceFailed}
use Rattle.gate_log.specs.declared.recover.Found.{Found}
use Rattle.gate_log.specs.Standing.{parts, FindsDamage, FindsNone, Stands, StandsAlike, IsAtRest, IsCutBack}
use Rattle.gate_log.specs.Version.{HaveOneVersion, IsOf}

-- the entries that stood are there, in the layout that they had, and nothing behind them
pub record IsRecovered (found : Found) (old new : Image) : Type 0 where
  pub stands : Stands old (parts 0 found.ends.items new.journal)
  pub is : IsOf found.version old
  pub at_rest : IsAtRest found.version found.ends.items new
  pub cut : IsCutBack found.version found.ends.items old new

-- 33 and 34 come only where they are due, and no other refusal but 31 and 70
pub record Finds {D T : Type 0} (G : Ghosts D) (disk : D) (result : Result T LogFault) : Type 0 where
  pub damaged : FindsDamage G disk result
  pub missing : FindsNone G disk result
  pub no_other : IfErr result IsFindFault

-- at each moment of an opening a stop leaves what it could leave at first, or what stands for the entries that a read gave, in their version
pub record OpensThrough {D : Type 0} (G : Ghosts D) (old new : D) : Type 0 where
  pub entries : G.honest old → LeavesOr G old new (StandsAlike (G.reads old))
  pub version : G.honest old → LeavesOr G old new (HaveOneVersion (G.reads old))

-- unless the device failed, a disk was looked at alone, and a stop leaves what a read gave
pub record HandsBack {D : Type 0} (G : Ghosts D) (old new : D) (e : LogFault) : Type 0 where
  pub kept : G.honest old → (e ≡ DeviceFailed) ⊎ Only (G.reads old) (G.may_leave new)
  pub looks : G.honest old → (e ≡ DeviceFailed) ⊎ Looks G old new
