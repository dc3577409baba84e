-- What is known of a repository in memory or on a disk as a port.
use Rattle.std.specs.Prelude.{Bool}
use Rattle.fleet_disk.specs.declared.disk.Disk.{Ghosts}
use Rattle.gate_log.specs.declared.fault.LogFault.TheVariants as log
use Rattle.repo_core.specs.Repository.{Repository}
use Rattle.repo_core.specs.declared.fault.RepoFault.TheVariants as core
use Rattle.repo_store.specs.declared.fault.StoreFault.{StoreFault}
use Rattle.repo_store.specs.declared.fault.StoreFault.TheVariants as refusal
use Rattle.repo_store.specs.declared.store.RepoStore.{RepoStore}
use Rattle.ra_serve.specs.declared.fault.PortFault.{PortFault}
use Rattle.ra_serve.specs.declared.fault.PortFault.TheVariants as fault
use Rattle.ra_serve.specs.declared.held_repo.HeldRepo.{HeldRepo}
use Rattle.ra_serve.specs.declared.held_store.HeldStore.{HeldStore}

-- the repository
abbrev pub repo_of : HeldRepo → Repository
repo_of p = p.repo

-- whether it takes no changes
abbrev pub takes_none : HeldRepo → Bool
takes_none p = p.mirror

-- the store
abbrev pub store_of : {D : Type 0} {G : Ghosts D} → HeldStore D G → RepoStore D G
store_of p = p.store

abbrev pub store_takes_none : {D : Type 0} {G : Ghosts D} → HeldStore D G → Bool
store_takes_none p = p.mirror

-- the refusal of a port that a store's is: one of a change of a property, or of the device
abbrev pub port_fault : StoreFault → PortFault
port_fault (refusal.Repo core.NoSuchRevision) = fault.NoSuchRevision
port_fault (refusal.Repo (core.BaseMismatch found)) = fault.BaseMismatch
port_fault (refusal.Repo core.TooLong) = fault.TooLong
port_fault (refusal.Log log.DeviceFailed) = fault.DeviceFailed
port_fault (refusal.Log log.Failed) = fault.Failed
port_fault (refusal.Log log.LogFull) = fault.LogFull
port_fault _ = fault.OutOfMemory
