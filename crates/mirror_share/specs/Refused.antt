-- What a mirror's call may be refused for, whatever the mirror is.
use Rattle.std.specs.Prelude.{◌≡◌, ◌⊎◌, ℕ, List, Option}
use Rattle.dump_load.specs.declared.fault.ChangeFault.{ChangeFault}
use Rattle.node_base.specs.declared.refusal.Refusal.TheVariants as refusal
use Rattle.repo_core.specs.declared.fault.RepoFault.{RepoFault}
use Rattle.repo_core.specs.declared.fault.RepoFault.TheVariants as repo
use Rattle.sync_core.specs.Dues.{IsNeedFault}
use Rattle.sync_core.specs.Faults.{of_repository}
use Rattle.sync_core.specs.Mirror.{Call, Init, TakeLock, StealLock, ReleaseLock, SetCopying, Commit, PutProps, SetMerged, ClearCopying, Look}
use Rattle.sync_core.specs.declared.fault.SyncFault.{SyncFault}
use Rattle.sync_core.specs.declared.fault.SyncFault.TheVariants as fault
use Rattle.sync_core.specs.declared.need.Need.{Need}
use Rattle.sync_core.specs.declared.need.Need.TheVariants as need
use Rattle.sync_job.specs.Kept.{IsWrite}

abbrev pub MayMissTurn : Need → Type 0
MayMissTurn n = (n ≡ need.NotHolder) ⊎ (n ≡ need.OutOfTurn)

-- the needs that a call may miss (51 to 55, 59, 61)
abbrev pub MayMiss : Call → Need → Type 0
MayMiss (Init url uuid props) n = (n ≡ need.AlreadyInitialised) ⊎ (n ≡ need.NotEmpty)
MayMiss (TakeLock token) n = (n ≡ need.NotInitialised) ⊎ (n ≡ need.LockHeld)
MayMiss (StealLock token) n = (n ≡ need.NotInitialised) ⊎ (n ≡ need.HolderRunning)
MayMiss ReleaseLock n = n ≡ need.NotHolder
MayMiss (SetCopying number) n = MayMissTurn n
MayMiss (Commit number set props) n = MayMissTurn n
MayMiss (PutProps number props) n = MayMissTurn n
MayMiss (SetMerged number) n = MayMissTurn n
MayMiss ClearCopying n = MayMissTurn n
MayMiss Look n = ⊥

-- what a repository may refuse of its entry: of a revision that it is one too many (23), a fault of its changes, or properties past
-- the limits (8); of properties that the revision isn't there (21), or the limits
abbrev pub MayForbid : Call → RepoFault → Type 0
MayForbid (Commit number set props) e = (e ≡ repo.Full) ⊎ ((f : ChangeFault) × (e ≡ repo.Change f)) ⊎ (e ≡ repo.TooLong)
MayForbid (PutProps number props) e = (e ≡ repo.NoSuchRevision) ⊎ (e ≡ repo.TooLong)
MayForbid Look e = ⊥
MayForbid _ e = e ≡ repo.TooLong

-- a refusal of a call: a need that it may miss, as it is told; what a repository may refuse of its entry; want of memory (70); of a
-- call that writes also want of room in the journal (36) and the device that fails (31); and that it failed before, or a cell
-- refused its box (32)
pub data IsRefusalOf (call : Call) (f : SyncFault) : Type 0 where
  Missed : (need : Need) → (lock : Option (List ℕ)) → MayMiss call need → IsNeedFault need lock f → IsRefusalOf call f
  Forbidden : (e : RepoFault) → MayForbid call e → f ≡ of_repository e → IsRefusalOf call f
  NoMemory : f ≡ fault.OutOfMemory → IsRefusalOf call f
  NoRoom : IsWrite call → f ≡ fault.Other refusal.LogFull → IsRefusalOf call f
  DeviceFails : IsWrite call → f ≡ fault.Other refusal.DeviceFailed → IsRefusalOf call f
  Failed : f ≡ fault.Other refusal.Failed → IsRefusalOf call f
