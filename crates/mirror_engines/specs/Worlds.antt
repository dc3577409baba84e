-- What a run over a mirror's store is in a world, and what a stop within it leaves.
use Rattle.std.specs.Prelude.{◌≡◌, ◌≤◌, ℕ, List, length, Option, None, Result, OnOk}
use Rattle.std.specs.List.{AllByRecursion, AllZip}
use Rattle.fleet_disk.specs.Image.{Image}
use Rattle.fleet_disk.specs.declared.disk.Disk.{Ghosts}
use Rattle.node_base.specs.declared.refusal.Refusal.{Refusal}
use Rattle.repo_core.specs.Repository.{Repository, trees_of}
use Rattle.repo_store.specs.Journal as journal
use Rattle.repo_store.specs.Words.{disk_of, repository_of, revisions_of, HasFailed}
use Rattle.repo_store.specs.declared.store.RepoStore.{RepoStore}
use Rattle.sync_core.specs.World.{Origin}
use Rattle.sync_job.specs.Alone.{begun, IsAnsweredBy, IsHeardOf, IsMasterAt, StandsAt}
use Rattle.sync_job.specs.Leading.{HasFirstSets, LeadsMirror, StaysFirst}
use Rattle.sync_job.specs.Mirrors.{MirrorNow}
use Rattle.sync_job.specs.Questions.{Exchange, IsSaidOf, questions_in}
use Rattle.sync_job.specs.Said.{Spoken}
use Rattle.sync_job.specs.Stops.{StopsAsMirror, StopsLeave}
use Rattle.sync_job.specs.Worlds.{AreFirst, IsEvents}
use Rattle.sync_job.specs.declared.master.MasterPort.{Ghosts as MasterGhosts}
use Rattle.mirror_engines.specs.declared.work.Work.{Work}
use Rattle.mirror_engines.specs.declared.work.Work.TheVariants as work

-- some later state of the port, to which answered questions have led, is one of a master that may be at this state
abbrev pub later_at : {M : Type 0} → (M → M → List Exchange → Type 0) → (M → Origin → Type 0) → M → Origin → Type 0
later_at {M} answered is_at master o = (m : M) × ((made : List Exchange) × answered m master made) × is_at m o

-- so a mirror stands in a store, with that holder, or with any
abbrev pub stands_in : {D : Type 0} {G : Ghosts D} → RepoStore D G → Option ℕ → MirrorNow → Type 0
stands_in store holder m = StandsAt store holder m

abbrev pub stands_last : {D : Type 0} {G : Ghosts D} → RepoStore D G → MirrorNow → Type 0
stands_last store m = (holder : Option ℕ) × StandsAt store holder m

-- a run is some more events of the world in which the mirror stands so
abbrev pub EventsInWorld : {D M : Type 0} {G : Ghosts D} → (M → M → List Exchange → Type 0) → (M → Origin → Type 0) → M → RepoStore D G → RepoStore D G → Type 0
EventsInWorld answered is_at master old new = IsEvents (is_at master) (later_at answered is_at master) (stands_in old None) (stands_last new) 0

-- and a stop at any moment of it leaves a mirror of the master
abbrev pub StopsInWorld : {D M : Type 0} {G : Ghosts D} → (M → M → List Exchange → Type 0) → (M → Origin → Type 0) → M → RepoStore D G → RepoStore D G → Type 0
StopsInWorld {G = G} answered is_at master old new = StopsAsMirror (is_at master) (later_at answered is_at master) (stands_in old None) 0 G.clock G.left_since (G.honest (disk_of old)) (disk_of old) (disk_of new)

-- both, of any master
pub record IsInWorld {D M : Type 0} {G : Ghosts D} (H : MasterGhosts M) (master : M) (old new : RepoStore D G) : Type 0 where
  pub events : EventsInWorld H.answered H.is_at master old new
  pub stops : StopsInWorld H.answered H.is_at master old new

-- what was said of the master's answers is what its port told, each question once, in order, and no other
pub record Hears {M : Type 0} (answered : M → M → List Exchange → Type 0) (master : M) (said : List Spoken) : Type 0 where
  pub last : M
  pub made : List Exchange
  pub gave : answered last master made
  pub told : AllZip IsSaidOf made (questions_in said)

-- of a master of which nothing is known
abbrev pub unknown : Unit {0} → Unit {0} → List Exchange → Type 0
unknown last first made = Unit {0}

-- what was said of the mirror's calls leads the mirror that stood in its store to one that stands there
pub record Leads {D : Type 0} {G : Ghosts D} (old new : RepoStore D G) (said : List Spoken) : Type 0 where
  pub now : MirrorNow
  pub holder : Option ℕ
  pub there : StandsAt new holder now
  pub led : LeadsMirror (begun (repository_of old)) said now

-- what the master's port tells is what this repository has, whatever it is asked
abbrev pub IsPortOf : {M : Type 0} → (M → M → List Exchange → Type 0) → M → Repository → Type 0
IsPortOf {M} answered master source = (last : M) (made : List Exchange) → answered last master made → AllByRecursion (IsHeardOf source) made

-- and each set that it gives is that repository's own
abbrev pub GivesOwnSets : {M : Type 0} → (M → M → List Exchange → Type 0) → M → Repository → Type 0
GivesOwnSets {M} answered master source = (last : M) (made : List Exchange) → answered last master made → AllByRecursion (IsAnsweredBy source) made

-- P is so of the mirror's repository at the end, and of whatever a stop leaves at any moment of the run and at its end
pub record IsThroughout {D : Type 0} {G : Ghosts D} (P : Repository → Type 0) (old new : RepoStore D G) : Type 0 where
  pub memory : P (repository_of new)
  pub disk : G.honest (disk_of old) → StopsLeave G.clock G.left_since (disk_of old) (disk_of new) (λ image. (r : Repository) × P r × journal.Keeps r image)

-- where the mirror's trees were the first ones of the source, they are so throughout, and no fewer
abbrev pub BringsTrees : {D : Type 0} {G : Ghosts D} → Repository → RepoStore D G → RepoStore D G → Type 0
BringsTrees source old new = AreFirst (trees_of (revisions_of old)) (trees_of source.revisions) → IsThroughout (StaysFirst source (repository_of old)) old new

-- where its change sets were the first ones of the source, they are so throughout
abbrev pub BringsSets : {D : Type 0} {G : Ghosts D} → Repository → RepoStore D G → RepoStore D G → Type 0
BringsSets source old new = HasFirstSets source (repository_of old) → IsThroughout (HasFirstSets source) old new

-- a mirror that is synchronised has as many revisions as its source
abbrev pub IsCaughtUp : {D : Type 0} {G : Ghosts D} → Work → Repository → RepoStore D G → Type 0
IsCaughtUp (work.Synchronize token steal) source new = length source.revisions ≤ length (revisions_of new)
IsCaughtUp (work.Initialize url) source new = Unit {0}
IsCaughtUp (work.CopyRevprops token low high) source new = Unit {0}

-- what a run of this work over a mirror's store makes of it, of any master
pub record Brings {D M : Type 0} {G : Ghosts D} (H : MasterGhosts M) (work : Work) (master : M) (old new : RepoStore D G) (result : Result (Unit {0}) Refusal) : Type 0 where
  pub world : IsInWorld H master old new
  -- where the master is a repository, of the mirror's trees, of its sets, and of their number
  pub trees : (source : Repository) → IsPortOf H.answered master source → ¬ HasFailed old → BringsTrees source old new
  pub sets : (source : Repository) → GivesOwnSets H.answered master source → ¬ HasFailed old → BringsSets source old new
  pub all : (source : Repository) → IsPortOf H.answered master source → ¬ HasFailed old → OnOk result (IsCaughtUp work source new)

-- what a run over a mirror's store makes of it, where its master is this repository, whatever the run answers: in every world in which
-- the mirror was one of that master it is one at the end, and so is whatever a stop leaves at any moment of the run and at its end; and
-- where its trees were the master's first ones, they are so in all of these, and no fewer
pub record IsMirroredFrom {D : Type 0} {G : Ghosts D} (source : Repository) (old new : RepoStore D G) : Type 0 where
  pub world : IsEvents (IsMasterAt source) (IsMasterAt source) (stands_in old None) (stands_last new) 0
  pub stops : StopsAsMirror (IsMasterAt source) (IsMasterAt source) (stands_in old None) 0 G.clock G.left_since (G.honest (disk_of old)) (disk_of old) (disk_of new)
  pub trees : BringsTrees source old new
