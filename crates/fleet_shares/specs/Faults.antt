-- What faults of a store are to a job.
use Rattle.std.specs.Prelude.{◌≡◌, ◌⊎◌}
use Rattle.node_base.specs.declared.refusal.Refusal.TheVariants.{NoSuchRevision, OutOfMemory}
use Rattle.repo_store.specs.Refusals.{store_refusal}
use Rattle.repo_store.specs.declared.fault.StoreFault.{StoreFault}
use Rattle.sync_job.specs.declared.master.MasterFault.{MasterFault}
use Rattle.sync_job.specs.declared.master.MasterFault.TheVariants.{Refused}

-- a master tells what its store refuses
abbrev pub master_fault : StoreFault → MasterFault
master_fault f = Refused (store_refusal f)

-- there is no such revision (21), or memory ran out (70)
abbrev pub IsNoRevision : MasterFault → Type 0
IsNoRevision f = (f ≡ Refused NoSuchRevision) ⊎ (f ≡ Refused OutOfMemory)
