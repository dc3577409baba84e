-- What the answers of a mirror in a store tell of its device.
use Rattle.std.specs.Prelude.{◌≡◌, ◌≤◌, ◌⊎◌, List, Result, IfErr}
use Rattle.std.specs.List.{AllByRecursion}
use Rattle.fleet_disk.specs.Rules.{Rose}
use Rattle.fleet_disk.specs.declared.disk.Disk.{Ghosts}
use Rattle.repo_store.specs.Words.{disk_of, HasFailed}
use Rattle.repo_store.specs.declared.store.RepoStore.{RepoStore}
use Rattle.sync_core.specs.Copies.{number_in}
use Rattle.sync_core.specs.declared.fault.SyncFault.{SyncFault}
use Rattle.sync_core.specs.declared.reply.Reply.{Reply as Given}
use Rattle.sync_job.specs.Asked.{Asked}

-- since the store was as the first its device has failed
abbrev pub FailsSince : {D : Type 0} {G : Ghosts D} → RepoStore D G → RepoStore D G → Type 0
FailsSince {G} first now = Rose (G.failures (disk_of first)) (G.failures (disk_of now))

-- or it had failed before
abbrev pub HasFailedSince : {D : Type 0} {G : Ghosts D} → RepoStore D G → RepoStore D G → Type 0
HasFailedSince first now = HasFailed first ⊎ FailsSince first now

-- a call is answered 31 only where the device has failed since then, and 32 only where it has, or had failed before
pub record IsCaused {D : Type 0} {G : Ghosts D} (first now : RepoStore D G) (result : Result Given SyncFault) : Type 0 where
  pub device : IfErr result (λ f. number_in f ≡ 31 → FailsSince first now)
  pub failed : IfErr result (λ f. number_in f ≡ 32 → HasFailedSince first now)

-- since the store was as the first these calls were made of its mirror, each of which was answered so; and it is broken only where its
-- device has failed since then, or had failed before
pub record WasAsked {D : Type 0} {G : Ghosts D} (now first : RepoStore D G) (calls : List Asked) : Type 0 where
  pub later : G.failures (disk_of first) ≤ G.failures (disk_of now)
  pub broken : HasFailed now → HasFailedSince first now
  pub causes : AllByRecursion (λ a. IsCaused first now a.result) calls
