-- A mirror's whole history: runs over its store, each stopped anywhere or ended, the store opened again, and the master that goes on.
use Rattle.std.specs.Prelude.{◌≡◌, ◌⊎◌, ℕ, true, Some, None, slice_get}
use Rattle.fleet_disk.specs.Image.{Image}
use Rattle.fleet_disk.specs.declared.disk.Disk.{Ghosts}
use Rattle.repo_core.specs.Repository.{Repository, root_alone, trees_of}
use Rattle.repo_store.specs.Journal.{Keeps}
use Rattle.repo_store.specs.Words.{disk_of, repository_of, revisions_of}
use Rattle.repo_store.specs.declared.store.RepoStore.{RepoStore}
use Rattle.sync_core.specs.Mirror.{fresh}
use Rattle.sync_core.specs.World.{Origin, Room}
use Rattle.sync_core.specs.Law.{Holds}
use Rattle.sync_job.specs.Alone.{begun, IsMasterAt, StandsAt}
use Rattle.sync_job.specs.Masters.{IsTrue}
use Rattle.mirror_engines.specs.Worlds.{IsMirroredFrom}

-- an image that a stop may leave at some moment of a run, or once it has ended, keeps the repository
pub record IsLeftBy {D : Type 0} {G : Ghosts D} (old new : RepoStore D G) (r : Repository) : Type 0 where
  pub image : Image
  pub left : G.left_since (disk_of new) (G.clock (disk_of old)) image ⊎ G.left_since (disk_of new) (G.clock (disk_of new)) image
  pub keeps : Keeps r image

-- a master goes on by its own commits and property edits, from one repository to another
abbrev pub GoesOn : Repository → Repository → Type 0
GoesOn source later = IsTrue (IsMasterAt source) (IsMasterAt later) (λ _. Unit {0})

-- what has become of a fresh repository and of a master: the master goes on; or a run over a store of the mirror's repository, which
-- works, on an honest disk, has left a repository, which is the mirror's from then on
pub data HasBecome {D : Type 0} (G : Ghosts D) : Repository → Repository → Type 0 where
  Fresh : (source mirror : Repository) → slice_get (trees_of source.revisions) 0 ≡ Some root_alone → mirror.revisions ≡ fresh.revisions → HasBecome G source mirror
  Went : (source later mirror : Repository) → HasBecome G source mirror → GoesOn source later → HasBecome G later mirror
  Ran : (source mirror left : Repository) → (old new : RepoStore D G) → HasBecome G source mirror → revisions_of old ≡ mirror.revisions → StandsAt old None (begun (repository_of old)) → G.honest (disk_of old) → IsMirroredFrom source old new
      → IsLeftBy old new left → HasBecome G source left

-- the mirror's repository is a mirror of a master that is the source now: where it is initialised it has the master's identity, a
-- front of its trees, and each map as it was when it was last copied, and rests in a shape; its journal commits 1 to its head in
-- order, each once; and nothing that was acknowledged or shown is missing
pub record IsMirrorNow (source mirror : Repository) : Type 0 where
  pub origin : Origin
  pub room : Room
  pub master : IsMasterAt source origin
  pub same : room.mirror.revisions ≡ mirror.revisions
  pub holds : Holds origin true room

abbrev pub EveryHistory : {D : Type 0} → Ghosts D → Type 0
EveryHistory G = (source mirror : Repository) → HasBecome G source mirror → IsMirrorNow source mirror
