-- Why a shared mirror's call is refused for its device, its cells or its journal.
use Rattle.std.specs.Prelude.{◌≡◌, ◌⊎◌, Bool, true}
use Rattle.fleet_disk.specs.declared.disk.Disk.{Ghosts}
use Rattle.node_base.specs.declared.refusal.Refusal.TheVariants as refusal
use Rattle.repo_store.specs.Words.{disk_of}
use Rattle.repo_store.specs.declared.store.RepoStore.{RepoStore}
use Rattle.sync_core.specs.Copies.{number_in}
use Rattle.sync_core.specs.Mirror.{Call}
use Rattle.sync_core.specs.declared.fault.SyncFault.{SyncFault}
use Rattle.sync_core.specs.declared.fault.SyncFault.TheVariants as fault
use Rattle.sync_job.specs.Alone.{IsFull}
use Rattle.sync_job.specs.Devices.{FailsSince, HasFailedSince}

-- a call's refusal, of the store before it and after it; behind it a cell has refused its box, or none has
pub record IsCausedBy {D : Type 0} {G : Ghosts D} (old new : RepoStore D G) (stuck : Bool) (call : Call) (f : SyncFault) : Type 0 where
  -- 31 only where the device failed in the call
  pub device : number_in f ≡ 31 → FailsSince old new
  -- 32 only where it has, or had failed before, or a cell has refused its box
  pub failed : number_in f ≡ 32 → HasFailedSince old new ⊎ (stuck ≡ true)
  -- 36 only where the journal has no room for the call's entry
  pub full : f ≡ fault.Other refusal.LogFull → IsFull old call
  -- and any other refusal, want of memory (70) too, leaves the disk as it was
  pub untouched : (number_in f ≡ 31) ⊎ (number_in f ≡ 32) ⊎ (disk_of new ≡ disk_of old)
