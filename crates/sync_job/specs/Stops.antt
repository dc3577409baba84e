-- What a stop within a run at a true master leaves: a mirror of that master.
use Rattle.std.specs.Prelude.{◌≡◌, ℕ, Bool, List, [], ◌++◌, None}
use Rattle.fleet_disk.specs.Image.{Image}
use Rattle.fleet_disk.specs.Rules.{LeavesOnly}
use Rattle.repo_core.specs.Repository.{Repository}
use Rattle.repo_store.specs.Journal as journal
use Rattle.sync_core.specs.World.{Origin, World, Event}
use Rattle.sync_core.specs.Law.{Starts}
use Rattle.sync_job.specs.Alone.{begun}
use Rattle.sync_job.specs.Masters.{IsTrue}
use Rattle.sync_job.specs.Mirrors.{MirrorNow}
use Rattle.sync_job.specs.Worlds.{StandsAfter}

-- some more events of the world lead to a mirror with this repository, as one that is opened: nobody has its lock, no job is there,
-- and no entry is in doubt. What holds of every mirror holds of it, and the master is at its port
pub record IsReached (w : World) (shaped : ℕ → Bool) (events : List Event) (at : Origin → Type 0) (r : Repository) : Type 0 where
  pub more : List Event
  pub stands : StandsAfter w shaped (events ++ more) at (λ m. m ≡ begun r)
  pub nobody : stands.room.jobs ≡ []

-- and the image keeps it
abbrev pub IsMirrorLeft : World → (ℕ → Bool) → List Event → (Origin → Type 0) → Image → Type 0
IsMirrorLeft w shaped events at image = (r : Repository) × IsReached w shaped events at r × journal.Keeps r image

-- a stop at each moment from one state of a port to another, and at the last one, leaves such an image
pub record StopsLeave {D : Type 0} (clock : D → ℕ) (left_since : D → ℕ → Image → Type 0) (before after : D) (P : Image → Type 0) : Type 0 where
  pub during : LeavesOnly clock left_since before after P
  pub last : (image : Image) → left_since after (clock after) image → P image

-- from a world with no job at its mirror and no entry in doubt there, a stop at any moment of a run of a job at seat 0, and at its
-- end, leaves a mirror of the master as the run's end finds it, also where a call was answered 31
abbrev pub StopsAsMirror : {D : Type 0} → (Origin → Type 0) → (Origin → Type 0) → (MirrorNow → Type 0) → ℕ → (D → ℕ) → (D → ℕ → Image → Type 0) → Type 0 → D → D → Type 0
StopsAsMirror at_old at_new stands_old seat clock left_since honest before after =
    (w : World) (shaped : ℕ → Bool) (events : List Event) → Starts w shaped → (s : StandsAfter w shaped events at_old stands_old) → s.room.jobs ≡ [] → seat ≡ 0 → s.mirror.doubt ≡ None
    → honest → StopsLeave clock left_since before after (IsMirrorLeft w shaped events at_new)

-- an image that a run's stop has left is where the next run begins: once its repository is opened again, and whatever the master has
-- done by itself since, it stands so after some more events of the world, and these clauses hold of that run
abbrev pub OpensAgain : {M N : Type 0} → (M → Origin → Type 0) → (N → MirrorNow → Type 0) → Type 0
OpensAgain {M} {N} is_at stands =
    (w : World) (shaped : ℕ → Bool) (events : List Event) (master_old master_new : M) (mirror : N) (r : Repository) → Starts w shaped → IsReached w shaped events (is_at master_old) r → IsTrue (is_at master_old) (is_at master_new) (λ _. Unit {0}) → stands mirror (begun r)
    → (more : List Event) × (s : StandsAfter w shaped (events ++ more) (is_at master_new) (stands mirror)) × (s.room.jobs ≡ []) × (s.mirror.doubt ≡ None)
