-- What a call does to a store's device, and what a stop leaves on it.
use Rattle.std.specs.Prelude.{◌≡◌, ◌<◌, ◌≤◌, ◌+◌, ◌^◌, ◌⊎◌, ◌↔◌, ℕ, Bool, true, false, List, [], ◌∷◌, ◌++◌, map, length, Result, IsErrOf}
use Rattle.node_base.specs.declared.refusal.Refusal.{Refusal}
use Rattle.node_base.specs.declared.refusal.Refusal.TheVariants as refusal
use Rattle.fleet_disk.specs.Image.{Image}
use Rattle.fleet_disk.specs.Rules.{LeavesOnly, Rose}
use Rattle.fleet_disk.specs.declared.disk.Disk.{Ghosts}
use Rattle.gate_log.specs.Log.{entries_of, size_of, version_of}
use Rattle.repo_core.specs.Entries.{with_entry_in}
use Rattle.repo_core.specs.declared.entry.Entry.{Entry}
use Rattle.repo_core.specs.Repository.{Repository}
use Rattle.repo_store.specs.Journal.{spelling, Keeps, IsBeforeOrAfter}
use Rattle.repo_store.specs.Words.{disk_of, log_of, repository_of, HasFailed}
use Rattle.repo_store.specs.declared.store.RepoStore.{RepoStore}

-- whether a refusal tells of the device: it fails (31), or has failed before (32)
abbrev pub is_device : Refusal → Bool
is_device refusal.DeviceFailed = true
is_device refusal.Failed = true
is_device e = false

-- a stop now leaves the store's repository, if the disk is honest and hasn't failed
abbrev pub IsSafe : {D : Type 0} {G : Ghosts D} → RepoStore D G → Type 0
IsSafe {G} store = G.honest (disk_of store) → ¬ HasFailed store → (image : Image) → G.left_since (disk_of store) (G.clock (disk_of store)) image → Keeps (repository_of store) image

-- why a store doesn't keep an entry, whatever the repository says of it: its device has failed before; or the journal has no room for the entry; or the device fails, and a stop leaves the repository without the entry or with it
pub data CantKeep {D : Type 0} {G : Ghosts D} (store : RepoStore D G) (entry : Entry) (e : Refusal) : Type 0 where
  failed_before : e ≡ refusal.Failed → HasFailed store → CantKeep store entry e
  no_room : e ≡ refusal.LogFull → 2 ^ 56 < size_of (log_of store) + length (spelling entry) → CantKeep store entry e
  device_fails : e ≡ refusal.DeviceFailed → (G.honest (disk_of store) → (image : Image) → G.may_leave (disk_of store) image → IsBeforeOrAfter (repository_of store) entry image) → CantKeep store entry e

-- the repository after a list of entries
abbrev pub repository_after : Repository → List Entry → Repository
repository_after r [] = r
repository_after r (e ∷ es) = repository_after (with_entry_in r e) es

-- an image keeps the repository after the first so many of these entries
abbrev pub IsOnTheWay : Repository → List Entry → Image → Type 0
IsOnTheWay r entries image = (done rest : List Entry) × (entries ≡ done ++ rest) × Keeps (repository_after r done) image

-- what a call with this answer did to a store and its device
pub record Serves {D : Type 0} {G : Ghosts D} (old new : RepoStore D G) (result : Result (Unit {0}) Refusal) : Type 0 where
  -- the disk keeps its rules, or doesn't, as before
  pub honest : G.honest (disk_of old) ↔ G.honest (disk_of new)
  -- 31 comes only where the device failed meanwhile, 32 only where it had failed before, and after either no change is taken
  pub later : G.failures (disk_of old) ≤ G.failures (disk_of new)
  pub device : IsErrOf result refusal.DeviceFailed → Rose (G.failures (disk_of old)) (G.failures (disk_of new))
  pub failed : IsErrOf result refusal.Failed → HasFailed old
  pub working : HasFailed new ↔ (HasFailed old ⊎ IsErrOf result refusal.DeviceFailed)
  -- these entries were taken one after another, and one more was begun where the device failed
  pub taken : List Entry
  pub begun : List Entry
  pub made : repository_of new ≡ repository_after (repository_of old) taken
  pub one : (begun ≡ []) ⊎ ((length begun ≡ 1) × IsErrOf result refusal.DeviceFailed)
  -- a stop at any moment of the call leaves the repository after some of them
  pub any_moment : G.honest (disk_of old) → ¬ HasFailed old → LeavesOnly G.clock G.left_since (disk_of old) (disk_of new) (IsOnTheWay (repository_of old) (taken ++ begun))
  -- and a stop after it the whole of it
  pub safe : IsSafe new
  -- unless it has failed, its log has the entries of before and the spellings of those that were taken, and no other
  pub written : G.honest (disk_of old) → ¬ HasFailed new → entries_of (log_of new) ≡ entries_of (log_of old) ++ map spelling taken
  -- its log is of the version of before
  pub version : version_of (log_of new) ≡ version_of (log_of old)
