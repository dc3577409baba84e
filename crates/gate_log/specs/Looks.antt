-- Calls of a disk that only look at it.
use Rattle.std.specs.Prelude.{◌≡◌, ◌≤◌, ◌-◌, ◌↔◌, ◌++◌, ℕ, List, Result, length, take, drop, min}
use Rattle.fleet_disk.specs.declared.disk.Disk.{Ghosts}
use Rattle.fleet_disk.specs.declared.disk.DiskFault.{DiskFault}
use Rattle.fleet_disk.specs.Rules.{Within, LeavesOnly}
use Rattle.gate_log.specs.Device.{IsCaused, IsFailure}
use Rattle.gate_log.specs.declared.fault.LogFault.{LogFault}

-- the reads stay, and at each moment a stop leaves only what it could leave before
pub record Looks {D : Type 0} (G : Ghosts D) (old new : D) : Type 0 where
  pub both_ways : G.honest old ↔ G.honest new
  pub same : G.honest old → G.reads new ≡ G.reads old
  pub inside : G.honest old → Within (G.may_leave new) (G.may_leave old)
  pub moments : G.honest old → LeavesOnly G.clock G.left_since old new (G.may_leave old)
  pub later : G.failures old ≤ G.failures new

-- n bytes of a file from an offset on, as many as the buffer takes or the file has, at the front of a buffer
pub record IsFilled (file : List ℕ) (at n : ℕ) (before after : List ℕ) : Type 0 where
  pub count : n ≡ min (length before) (length file - at)
  pub bytes : after ≡ take n (drop at file) ++ drop n before

-- a call only looks at a disk, and is refused only where the device fails
pub record LooksOn {D T : Type 0} (G : Ghosts D) (old new : D) (result : Result T DiskFault) : Type 0 where
  pub only : Looks G old new
  pub cause : IsCaused G old new result

-- a call only looks at a disk, and answers 31 only where the device fails
pub record LooksFor {D T : Type 0} (G : Ghosts D) (old new : D) (result : Result T LogFault) : Type 0 where
  pub only : Looks G old new
  pub device : IsFailure G old new result
