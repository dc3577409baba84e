-- What a load has told of revisions, and that it stands.
use Rattle.std.specs.Prelude.{◌<◌, ◌≤◌, ℕ, length}
use Rattle.fleet_disk.specs.Image.{Image}
use Rattle.fleet_disk.specs.declared.disk.Disk.{Ghosts}
use Rattle.repo_core.specs.Repository.{Repository}
use Rattle.repo_store.specs.Journal.{Keeps}
use Rattle.repo_store.specs.Words.{disk_of, revisions_of, HasFailed}
use Rattle.repo_store.specs.declared.store.RepoStore.{RepoStore}
use Rattle.store_engines.specs.Devices.{IsSafe}

-- a revision that was told, and the disk's clock at that moment
pub record Telling : Type 0 where
  pub number : ℕ
  pub moment : ℕ

-- told now, of this store
abbrev pub telling : {D : Type 0} {G : Ghosts D} → RepoStore D G → ℕ → Telling
telling {G} store n = record { number = n; moment = G.clock (disk_of store) }

-- an image keeps a repository that has this revision
abbrev pub HasRevision : ℕ → Image → Type 0
HasRevision n image = (r : Repository) × Keeps r image × (n < length r.revisions)

-- the store has the revision, and a stop at any moment since it was told leaves what has it
pub record StandsSince {D : Type 0} {G : Ghosts D} (store : RepoStore D G) (t : Telling) : Type 0 where
  pub there : t.number < length (revisions_of store)
  pub before : t.moment ≤ G.clock (disk_of store)
  pub left : (image : Image) → G.left_since (disk_of store) t.moment image → HasRevision t.number image

-- all that was told stands, if the disk is honest
abbrev pub AllStand : {D : Type 0} {G : Ghosts D} → RepoStore D G → (Telling → Type 0) → Type 0
AllStand {G} store told = G.honest (disk_of store) → (t : Telling) → told t → StandsSince store t

-- where all that was told stood before a call of a store that works, all stands after it
abbrev pub StaysTold : {D : Type 0} {G : Ghosts D} → RepoStore D G → RepoStore D G → (Telling → Type 0) → (Telling → Type 0) → Type 0
StaysTold old new before now = ¬ HasFailed old → AllStand old before → AllStand new now

-- and of one whose disk is safe
abbrev pub KeepsTold : {D : Type 0} {G : Ghosts D} → RepoStore D G → RepoStore D G → (Telling → Type 0) → (Telling → Type 0) → Type 0
KeepsTold old new before now = IsSafe old → StaysTold old new before now
