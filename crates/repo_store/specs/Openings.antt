-- What a call makes of the disk that is handed to it: a store, or a refusal with the disk.
use Rattle.std.specs.Prelude.{◌≡◌, ◌≢◌, ◌⊎◌, ◌↔◌, ◌≤◌, ℕ, List, [], ◌∷◌, length}
use Rattle.fleet_disk.specs.Image.{no_bytes}
use Rattle.fleet_disk.specs.Rules.{Only, Rose}
use Rattle.fleet_disk.specs.declared.disk.Disk.{Ghosts}
use Rattle.gate_log.specs.Device.{Leaves, LeavesNow, LeavesOr}
use Rattle.gate_log.specs.Looks.{Looks}
use Rattle.gate_log.specs.Standing.{HasNoEntry, IsBlank, IsEither, StandsAlike}
use Rattle.gate_log.specs.Version.{HaveOneVersion, IsOf}
use Rattle.gate_log.specs.declared.fault.LogFault.TheVariants as log
use Rattle.gate_log.specs.declared.version.LogVersion.TheVariants.{First, Second}
use Rattle.repo_core.specs.Repository.{Revision, fresh}
use Rattle.repo_store.specs.Journal.{IsDamaged, Keeps, KeepsAlike, ReopensTo, beginning_of}
use Rattle.repo_store.specs.Refusals.{IsCreateFault, IsHostFault, IsOpenFault, IsUpgradeFault}
use Rattle.repo_store.specs.Words.{disk_of, entries_in, identity_of, repository_of, revisions_of, version_in}
use Rattle.repo_store.specs.Words.{HasFailed, IfSound, IsHonest, LeavesEntries, ReopensAs, StopKeeps, StopLeaves}
use Rattle.repo_store.specs.declared.fault.StoreFault.{StoreFault}
use Rattle.repo_store.specs.declared.fault.StoreFault.TheVariants.{Log}
use Rattle.repo_store.specs.declared.store.RepoStore.{RepoStore}

-- of a disk of empty files a stop leaves no entry, or one that begins a repository of this identity
abbrev pub MayBegin : {D : Type 0} → Ghosts D → List ℕ → D → D → Type 0
MayBegin G identity old new = Leaves G old new (λ c. IsBlank c ⊎ IsEither [] (beginning_of identity) c)

-- a stop leaves what it could leave before, or what keeps all that was read
abbrev pub KeepsThrough : {D : Type 0} → Ghosts D → D → D → Type 0
KeepsThrough G old new = LeavesOr G old new (KeepsAlike (G.reads old))

-- a stop leaves what it could leave before, or an image of the version that was read
abbrev pub VersionStays : {D : Type 0} → Ghosts D → D → D → Type 0
VersionStays G old new = LeavesOr G old new (HaveOneVersion (G.reads old))

-- unless the device failed, a stop now leaves what was read, or an image of its entries
abbrev pub HandsBack : {D : Type 0} → Ghosts D → D → StoreFault × D → Type 0
HandsBack G old e = (e.0 ≡ Log log.DeviceFailed) ⊎ LeavesNow G e.1 (λ image. (image ≡ G.reads old) ⊎ StandsAlike (G.reads old) image)

-- each image that a stop may leave of the disk keeps the store's repository
abbrev pub KeepsIt : {D : Type 0} {G : Ghosts D} → RepoStore D G → D → Type 0
KeepsIt {G} store disk = LeavesNow G disk (Keeps (repository_of store))

-- so does each image that a stop leaves from the store's disk on
abbrev pub StaysKept : {D : Type 0} {G : Ghosts D} → RepoStore D G → D → Type 0
StaysKept {G} store disk = Leaves G (disk_of store) disk (Keeps (repository_of store))

-- a store that is begun on a disk of empty files: revision 0 alone, without properties, its first entry in a log of the second version
pub record IsCreated {D : Type 0} (G : Ghosts D) (identity : List ℕ) (disk : D) (store : RepoStore D G) : Type 0 where
  pub empty : G.honest disk → G.reads disk ≡ no_bytes
  pub made : repository_of store ≡ fresh identity
  pub version : version_in store ≡ Second
  pub working : ¬ HasFailed store
  -- a stop leaves what keeps it, with that entry and no other
  pub durable : G.honest disk → StopLeaves store (Keeps (fresh identity))
  pub first : G.honest disk → LeavesEntries store (beginning_of identity ∷ [])
  pub written : G.honest disk → entries_in store ≡ beginning_of identity ∷ []
  pub any_moment : G.honest disk → Only no_bytes (G.may_leave disk) → MayBegin G identity disk (disk_of store)
  pub honest : G.honest disk ↔ G.honest (disk_of store)
  pub later : G.failures disk ≤ G.failures (disk_of store)

-- why none is begun, and what is left of the disk: one with something on it is looked at alone, and at 70 it is the very one
pub record NotCreated {D : Type 0} (G : Ghosts D) (identity : List ℕ) (disk : D) (e : StoreFault × D) : Type 0 where
  pub there : G.honest disk → e.0 ≡ Log log.ThereAlready → G.reads disk ≢ no_bytes
  pub device : e.0 ≡ Log log.DeviceFailed → Rose (G.failures disk) (G.failures e.1)
  pub memory : e.0 ≡ Log log.OutOfMemory → e.1 ≡ disk
  pub no_other : IsCreateFault e.0
  pub looks : G.honest disk → G.reads disk ≢ no_bytes → Looks G disk e.1
  pub any_moment : G.honest disk → Only no_bytes (G.may_leave disk) → MayBegin G identity disk e.1
  pub honest : G.honest disk ↔ G.honest e.1
  pub later : G.failures disk ≤ G.failures e.1

-- the store that is opened on a disk: it has the repository to which what a read gives reopens, with the sets that its entries tell
pub record IsOpened {D : Type 0} (G : Ghosts D) (disk : D) (store : RepoStore D G) : Type 0 where
  pub stands : G.honest disk → ReopensAs store (G.reads disk)
  pub keeps : G.honest disk → Keeps (repository_of store) (G.reads disk)
  pub found : G.honest disk → (identity : List ℕ) (x : List Revision) → ReopensTo identity x (G.reads disk) → (identity_of store ≡ identity) × (revisions_of store ≡ x)
  -- no entry of it is damaged
  pub whole : G.honest disk → (entry : ℕ) → IsDamaged entry (G.reads disk) → ⊥
  pub working : ¬ HasFailed store
  pub version : G.honest disk → IsOf (version_in store) (G.reads disk)
  pub durable : G.honest disk → StopKeeps store
  pub any_moment : G.honest disk → KeepsThrough G disk (disk_of store)
  pub version_stays : G.honest disk → VersionStays G disk (disk_of store)
  pub honest : G.honest disk ↔ G.honest (disk_of store)
  pub later : G.failures disk ≤ G.failures (disk_of store)

-- why none is opened, and what is left of the disk
pub record NotOpened {D : Type 0} (G : Ghosts D) (disk : D) (e : StoreFault × D) : Type 0 where
  -- an image that reopens is refused for the device or for memory alone
  pub due : G.honest disk → (identity : List ℕ) (x : List Revision) → ReopensTo identity x (G.reads disk) → IsHostFault e.0
  -- the entry that is told as damaged is the first that is; one that is damaged is told, unless the device fails or memory runs out
  pub damaged : G.honest disk → (entry : ℕ) → e.0 ≡ Log (log.Damaged entry) → IsDamaged entry (G.reads disk)
  pub first : G.honest disk → (entry : ℕ) → IsDamaged entry (G.reads disk) → (e.0 ≡ Log (log.Damaged entry)) ⊎ IsHostFault e.0
  pub missing : G.honest disk → e.0 ≡ Log log.NoRepository → HasNoEntry (G.reads disk)
  pub device : e.0 ≡ Log log.DeviceFailed → Rose (G.failures disk) (G.failures e.1)
  pub no_other : IsOpenFault e.0
  pub kept : G.honest disk → HandsBack G disk e
  pub any_moment : G.honest disk → KeepsThrough G disk e.1
  pub version_stays : G.honest disk → VersionStays G disk e.1
  pub honest : G.honest disk ↔ G.honest e.1
  pub later : G.failures disk ≤ G.failures e.1

-- a store is of the second version: so many entries were given sums, or it was of that version, and nothing was done; its repository and its entries stay
pub record IsUpgraded {D : Type 0} {G : Ghosts D} (old : RepoStore D G) (done : RepoStore D G × ℕ) : Type 0 where
  pub worked : ¬ HasFailed old
  pub working : ¬ HasFailed done.0
  pub same : repository_of done.0 ≡ repository_of old
  pub entries : IsHonest old → entries_in done.0 ≡ entries_in old
  pub version : version_in done.0 ≡ Second
  pub count : version_in old ≡ First → done.1 ≡ length (entries_in old)
  pub already : version_in old ≡ Second → (disk_of done.0 ≡ disk_of old) × (done.1 ≡ 0)
  -- a stop leaves them, in the second version
  pub stand : IfSound old (LeavesEntries done.0 (entries_in old))
  pub second : IsHonest old → StopLeaves done.0 (IsOf Second)
  pub durable : IsHonest old → KeepsIt old (disk_of done.0)
  pub any_moment : IfSound old (StaysKept old (disk_of done.0))
  pub honest : IsHonest old ↔ IsHonest done.0
  pub later : G.failures (disk_of old) ≤ G.failures (disk_of done.0)

-- why it isn't made one, and what is left of its disk: the very one where it has failed, and unless the device fails one that was looked at alone
pub record NotUpgraded {D : Type 0} {G : Ghosts D} (old : RepoStore D G) (e : StoreFault × D) : Type 0 where
  pub failed : (e.0 ≡ Log log.Failed) ↔ HasFailed old
  pub stays : HasFailed old → e.1 ≡ disk_of old
  pub device : e.0 ≡ Log log.DeviceFailed → Rose (G.failures (disk_of old)) (G.failures e.1)
  pub no_other : IsHonest old → IsUpgradeFault e.0
  pub looks : (e.0 ≡ Log log.DeviceFailed) ⊎ (e.0 ≡ Log log.Failed) ⊎ Looks G (disk_of old) e.1
  pub kept : IfSound old (KeepsIt old e.1)
  pub any_moment : IfSound old (StaysKept old e.1)
  pub honest : IsHonest old ↔ G.honest e.1
  pub later : G.failures (disk_of old) ≤ G.failures e.1
