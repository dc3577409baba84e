-- The numbers of a store's faults, and the refusals that they are.
use Rattle.std.specs.Prelude.{◌≡◌, ◌⊎◌, ◌≤◌, ℕ, List, length}
use Rattle.gate_log.specs.Faults as log
use Rattle.gate_log.specs.declared.fault.LogFault.{LogFault}
use Rattle.gate_log.specs.declared.fault.LogFault.TheVariants.{DeviceFailed, Failed, Damaged, NoRepository, ThereAlready, LogFull, OutOfMemory}
use Rattle.repo_core.specs.Refusals as core
use Rattle.repo_core.specs.Repository.{Revision}
use Rattle.repo_core.specs.declared.fault.RepoFault.TheVariants.{NoSuchRevision}
pub use Rattle.repo_core.specs.Refusals.{repo_refusal}
use Rattle.node_base.specs.declared.refusal.Refusal.{Refusal}
use Rattle.node_base.specs.declared.refusal.Refusal.TheVariants as refusal
use Rattle.repo_store.specs.declared.fault.StoreFault.{StoreFault}
use Rattle.repo_store.specs.declared.fault.StoreFault.TheVariants.{Repo, Log}

-- what the reading of entries answers: 31, 33 or 70
abbrev pub IsReplayFault : LogFault → Type 0
IsReplayFault DeviceFailed = Unit {0}
IsReplayFault (Damaged entry) = Unit {0}
IsReplayFault OutOfMemory = Unit {0}
IsReplayFault Failed = ⊥
IsReplayFault NoRepository = ⊥
IsReplayFault ThereAlready = ⊥
IsReplayFault LogFull = ⊥

-- the number of a refusal
abbrev pub number_of : StoreFault → ℕ
number_of (Repo f) = core.number_of f
number_of (Log f) = log.number_of f

-- what creates it: 31, 35 or 70
abbrev pub IsCreateFault : StoreFault → Type 0
IsCreateFault (Repo f) = ⊥
IsCreateFault (Log f) = (f ≡ DeviceFailed) ⊎ (f ≡ ThereAlready) ⊎ (f ≡ OutOfMemory)

-- what opens it: 31, 33, 34 or 70
abbrev pub IsOpenFault : StoreFault → Type 0
IsOpenFault (Repo f) = ⊥
IsOpenFault (Log f) = log.IsFindFault f

-- the device failed (31), or memory ran out (70)
abbrev pub IsHostFault : StoreFault → Type 0
IsHostFault e = (e ≡ Log DeviceFailed) ⊎ (e ≡ Log OutOfMemory)

-- what makes it one of the second version on an honest disk: 31, 32 or 70
abbrev pub IsUpgradeFault : StoreFault → Type 0
IsUpgradeFault e = (e ≡ Log DeviceFailed) ⊎ (e ≡ Log Failed) ⊎ (e ≡ Log OutOfMemory)

-- why a revision isn't exported: it isn't there (21), or memory ran out (70)
abbrev pub IsExportFault : List Revision → ℕ → StoreFault → Type 0
IsExportFault x number e = ((e ≡ Repo NoSuchRevision) × (length x ≤ number)) ⊎ (e ≡ Log OutOfMemory)

-- the refusal that a fault of the log is
abbrev pub log_refusal : LogFault → Refusal
log_refusal DeviceFailed = refusal.DeviceFailed
log_refusal Failed = refusal.Failed
log_refusal (Damaged entry) = refusal.Damaged entry
log_refusal NoRepository = refusal.NoRepository
log_refusal ThereAlready = refusal.ThereAlready
log_refusal LogFull = refusal.LogFull
log_refusal OutOfMemory = refusal.OutOfMemory

-- the one that a fault of the store is
abbrev pub store_refusal : StoreFault → Refusal
store_refusal (Repo f) = repo_refusal f
store_refusal (Log f) = log_refusal f
