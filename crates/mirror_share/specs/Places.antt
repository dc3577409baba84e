-- The places of the jobs that run.
use Rattle.std.specs.Prelude.{◌≡◌, ◌⊎◌, ℕ, List, Option, Some, None, slice_get}
use Rattle.std.specs.Option.{option_and_then}
use Rattle.sync_core.specs.declared.fault.SyncFault.{SyncFault}
use Rattle.sync_core.specs.declared.fault.SyncFault.TheVariants.{HolderRunning, OutOfMemory}
use Rattle.sync_core.specs.declared.lock_token.LockToken.{LockToken}

-- the token of the job that runs at a place
abbrev pub job_at : List (Option (List ℕ)) → ℕ → Option (List ℕ)
job_at places i = option_and_then (λ token. token) (slice_get places i)

-- it says that the job of this token runs, or want of memory
abbrev pub IsRunningFault : List ℕ → SyncFault → Type 0
IsRunningFault token f = (f ≡ OutOfMemory) ⊎ ((told : LockToken) × (f ≡ HolderRunning told) × (told.bytes.items ≡ token))

-- a job isn't let in: one of its token runs at some place, or want of memory
abbrev pub IsEntryFault : List (Option (List ℕ)) → List ℕ → SyncFault → Type 0
IsEntryFault places token f = (f ≡ OutOfMemory) ⊎ (((i : ℕ) × (job_at places i ≡ Some token)) × IsRunningFault token f)

-- at each other place the same job runs, or none
abbrev pub OthersStay : ℕ → List (Option (List ℕ)) → List (Option (List ℕ)) → Type 0
OthersStay place old new = (j : ℕ) → (j ≡ place → ⊥) → job_at new j ≡ job_at old j

-- at each place
abbrev pub JobsStay : List (Option (List ℕ)) → List (Option (List ℕ)) → Type 0
JobsStay old new = (j : ℕ) → job_at new j ≡ job_at old j

-- no job of this token runs
abbrev pub RunsNowhere : List (Option (List ℕ)) → List ℕ → Type 0
RunsNowhere places token = (i : ℕ) → job_at places i ≡ Some token → ⊥

-- no job runs
abbrev pub AreFree : List (Option (List ℕ)) → Type 0
AreFree places = (i : ℕ) → job_at places i ≡ None
