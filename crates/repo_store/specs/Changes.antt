-- What a change of a store is, for its repository, its disk and its answer.
use Rattle.std.specs.Prelude.{◌≡◌, ◌<◌, ◌≤◌, ◌+◌, ◌^◌, ◌⊎◌, ◌↔◌, ◌++◌, ◌∷◌, [], ℕ, List, length, Option, Some, None, Result, Ok, Err}
use Rattle.node_base.specs.Path.{Name}
use Rattle.node_base.specs.Props.{PropMap}
use Rattle.dump_load.specs.Trees.{Makes}
use Rattle.dump_load.specs.declared.change.Change.{Change}
use Rattle.dump_load.specs.declared.load.Applied.{Applied}
use Rattle.fleet_disk.specs.Image.{Image}
use Rattle.fleet_disk.specs.Rules.{LeavesOnly, Rose}
use Rattle.fleet_disk.specs.declared.disk.Disk.{Ghosts}
use Rattle.gate_log.specs.Log.{size_of, ends_of, entries_of}
use Rattle.gate_log.specs.declared.fault.LogFault.TheVariants as log
use Rattle.repo_core.specs.Repository.{Revision, props_at, trees_of}
use Rattle.repo_core.specs.Entries.{with_entry_in}
use Rattle.repo_core.specs.Refusals.{IsDue, by_repository, change_fault, commit_fault, with_value}
use Rattle.repo_core.specs.Staging.{StagedEntry}
use Rattle.repo_core.specs.declared.entry.Entry.{Entry}
use Rattle.repo_core.specs.declared.entry.Entry.TheVariants.{Revised, Mapped}
use Rattle.repo_core.specs.declared.expected.Expected.{Expected}
use Rattle.repo_core.specs.declared.fault.RepoFault.{RepoFault}
use Rattle.repo_store.specs.Journal.{spelling, Keeps, KeepsOr, IsBeforeOrAfter}
use Rattle.repo_store.specs.Words.{disk_of, doubt_of, entry_in, log_of, repository_of, revisions_of, version_in, HasFailed, IsReadyFor}
use Rattle.repo_store.specs.declared.fault.StoreFault.{StoreFault}
use Rattle.repo_store.specs.declared.fault.StoreFault.TheVariants.{Repo, Log}
use Rattle.repo_store.specs.declared.staged.Staged.{Staged}
use Rattle.repo_store.specs.declared.store.RepoStore.{RepoStore}

-- the entry of the revision after the head
abbrev pub next_entry : List Revision → List Change → PropMap → Entry
next_entry x set props = Revised (length x) set props

-- a set was judged over these revisions, and makes that tree
abbrev pub IsJudgedOver : List Revision → Applied → Type 0
IsJudgedOver x applied = Makes (trees_of x) applied.set applied.tree

-- a revision's entry has the number after the head's
abbrev pub IsNumbered : List Revision → Entry → Type 0
IsNumbered x (Revised n set props) = n ≡ length x
IsNumbered x (Mapped n props) = Unit {0}

-- the repository judged this entry, of which it refuses this
abbrev pub IsJudged : Entry → Option RepoFault → Result StagedEntry RepoFault → Type 0
IsJudged entry refused (Ok staged) = (refused ≡ None) × (staged.entry ≡ entry)
IsJudged entry refused (Err f) = IsDue f refused

-- it judged what it refuses of this entry
abbrev pub IsJudgment : List Revision → Entry → Result StagedEntry RepoFault → Type 0
IsJudgment x entry judged = IsJudged entry (by_repository x entry) judged

-- why a store refuses an entry of which this is due: its device has failed before (32); or else what is due, or that the journal has no room for it (36), or want of memory (70)
abbrev pub Refuses : {D : Type 0} {G : Ghosts D} → RepoStore D G → Entry → Option RepoFault → StoreFault → Type 0
Refuses store entry due (Repo f) = (¬ HasFailed store) × IsDue f due
Refuses store entry due (Log log.Failed) = HasFailed store
Refuses store entry due (Log log.LogFull) = (¬ HasFailed store) × (due ≡ None) × (2 ^ 56 < size_of (log_of store) + length (spelling entry))
Refuses store entry due (Log log.OutOfMemory) = ¬ HasFailed store
Refuses store entry due (Log log.DeviceFailed) = ⊥
Refuses store entry due (Log (log.Damaged n)) = ⊥
Refuses store entry due (Log log.NoRepository) = ⊥
Refuses store entry due (Log log.ThereAlready) = ⊥

-- the store is as it was, but for room in memory
pub record Stays {D : Type 0} {G : Ghosts D} (old new : RepoStore D G) : Type 0 where
  pub disk : disk_of new ≡ disk_of old
  pub repository : repository_of new ≡ repository_of old
  pub doubt : doubt_of new ≡ doubt_of old
  pub entries : ends_of (log_of new) ≡ ends_of (log_of old)
  pub working : HasFailed new ↔ HasFailed old

-- an entry of which nothing is due is made ready, and nothing changes
pub record IsStaged {D : Type 0} {G : Ghosts D} (entry : Entry) (due : Option RepoFault) (old new : RepoStore D G) (staged : Staged) : Type 0 where
  pub worked : ¬ HasFailed old
  pub taken : due ≡ None
  pub says : entry_in staged ≡ entry
  pub ready : IsReadyFor new staged
  pub stays : Stays old new

-- an entry is made ready, or is refused and nothing changes: what it is where the repository refuses this of it
abbrev pub Stages : {D : Type 0} {G : Ghosts D} → Entry → Option RepoFault → RepoStore D G → RepoStore D G → Result Staged StoreFault → Type 0
Stages entry refused old new (Ok staged) = IsStaged entry refused old new staged
Stages entry refused old new (Err e) = Stays old new × Refuses old entry refused e

-- the entry is written and taken in
pub record IsTaken {D : Type 0} {G : Ghosts D} (entry : Entry) (old new : RepoStore D G) : Type 0 where
  pub worked : ¬ HasFailed old
  pub works : ¬ HasFailed new
  pub made : repository_of new ≡ with_entry_in (repository_of old) entry
  -- the journal has its spelling more, and a stop from now on leaves what keeps the repository with it
  pub written : G.honest (disk_of old) → entries_of (log_of new) ≡ entries_of (log_of old) ++ spelling entry ∷ []
  pub durable : G.honest (disk_of old) → (image : Image) → G.may_leave (disk_of new) image → Keeps (with_entry_in (repository_of old) entry) image
  -- a stop at any moment of it leaves what keeps the repository before or after it
  pub any_moment : G.honest (disk_of old) → LeavesOnly G.clock G.left_since (disk_of old) (disk_of new) (IsBeforeOrAfter (repository_of old) entry)
  pub honest : G.honest (disk_of old) ↔ G.honest (disk_of new)
  pub later : G.failures (disk_of old) ≤ G.failures (disk_of new)

-- the device fails (31): the repository in memory is as before, and on the disk it is the one before or after the entry, which is in doubt from now on
pub record IsBroken {D : Type 0} {G : Ghosts D} (entry : Entry) (old new : RepoStore D G) (e : StoreFault) : Type 0 where
  pub fault : e ≡ Log log.DeviceFailed
  pub worked : ¬ HasFailed old
  pub failed : HasFailed new
  pub same : repository_of new ≡ repository_of old
  pub doubt : doubt_of new ≡ Some entry
  pub either : G.honest (disk_of old) → (image : Image) → G.may_leave (disk_of new) image → IsBeforeOrAfter (repository_of old) entry image
  pub any_moment : G.honest (disk_of old) → LeavesOnly G.clock G.left_since (disk_of old) (disk_of new) (IsBeforeOrAfter (repository_of old) entry)
  pub device : Rose (G.failures (disk_of old)) (G.failures (disk_of new))
  pub honest : G.honest (disk_of old) ↔ G.honest (disk_of new)
  pub later : G.failures (disk_of old) ≤ G.failures (disk_of new)

-- it is refused, and nothing changes; a stop at any moment of it leaves what keeps the repository, or, if the device failed before, that before or after the call that failed
pub record IsRefused {D : Type 0} {G : Ghosts D} (entry : Entry) (due : Option RepoFault) (old new : RepoStore D G) (e : StoreFault) : Type 0 where
  pub why : Refuses old entry due e
  pub stays : Stays old new
  pub doubtless : ¬ HasFailed old → doubt_of old ≡ None
  pub any_moment : G.honest (disk_of old) → LeavesOnly G.clock G.left_since (disk_of old) (disk_of new) (KeepsOr (repository_of old) (doubt_of old))

-- an entry that is ready is installed
abbrev pub Installs : {D : Type 0} {G : Ghosts D} {T : Type 0} → Entry → RepoStore D G → RepoStore D G → Result T StoreFault → Type 0
Installs entry old new (Ok answer) = IsTaken entry old new
Installs entry old new (Err e) = IsBroken entry old new e

-- a change of a store, which is this entry where the repository refuses this of it: it is taken; or nothing is due and the device fails; or it is refused
abbrev pub Changes : {D : Type 0} {G : Ghosts D} {T : Type 0} → Entry → Option RepoFault → RepoStore D G → RepoStore D G → Result T StoreFault → Type 0
Changes entry refused old new (Ok answer) = (refused ≡ None) × IsTaken entry old new
Changes entry refused old new (Err e) = ((refused ≡ None) × IsBroken entry old new e) ⊎ IsRefused entry refused old new e

-- the log stays of its version
abbrev pub KeepsVersion : {D : Type 0} {G : Ghosts D} → RepoStore D G → RepoStore D G → Type 0
KeepsVersion old new = version_in new ≡ version_in old

-- this entry is made ready, or refused for what the repository refuses of it
abbrev pub StagesEntry : {D : Type 0} {G : Ghosts D} → Entry → RepoStore D G → RepoStore D G → Result Staged StoreFault → Type 0
StagesEntry entry old new result = Stages entry (by_repository (revisions_of old) entry) old new result

-- the revision after the head is made ready, or refused for its base or for what the repository refuses of it
abbrev pub StagesCommit : {D : Type 0} {G : Ghosts D} → ℕ → List Change → PropMap → RepoStore D G → RepoStore D G → Result Staged StoreFault → Type 0
StagesCommit base set props old new result =
    let entry = next_entry (revisions_of old) set props in Stages entry (commit_fault (revisions_of old) base entry) old new result

-- the properties of a revision, with this value of one, are made ready, or refused for another value than the expected one too
abbrev pub StagesProp : {D : Type 0} {G : Ghosts D} → ℕ → Name → Option (List ℕ) → Expected → RepoStore D G → RepoStore D G → Result Staged StoreFault → Type 0
StagesProp number name value expected old new result =
    Stages (Mapped number (with_value (props_at (revisions_of old) number) name value)) (change_fault (revisions_of old) number name value expected) old new result

-- the same three, made ready and installed
abbrev pub TakesEntry : {D : Type 0} {G : Ghosts D} {T : Type 0} → Entry → RepoStore D G → RepoStore D G → Result T StoreFault → Type 0
TakesEntry entry old new result = Changes entry (by_repository (revisions_of old) entry) old new result

abbrev pub TakesCommit : {D : Type 0} {G : Ghosts D} {T : Type 0} → ℕ → List Change → PropMap → RepoStore D G → RepoStore D G → Result T StoreFault → Type 0
TakesCommit base set props old new result =
    let entry = next_entry (revisions_of old) set props in Changes entry (commit_fault (revisions_of old) base entry) old new result

abbrev pub TakesProp : {D : Type 0} {G : Ghosts D} {T : Type 0} → ℕ → Name → Option (List ℕ) → Expected → RepoStore D G → RepoStore D G → Result T StoreFault → Type 0
TakesProp number name value expected old new result =
    Changes (Mapped number (with_value (props_at (revisions_of old) number) name value)) (change_fault (revisions_of old) number name value expected) old new result

-- whatever the entry was of which the repository judged so, it is made ready or refused
abbrev pub StagesJudged : {D : Type 0} {G : Ghosts D} → Result StagedEntry RepoFault → RepoStore D G → RepoStore D G → Result Staged StoreFault → Type 0
StagesJudged judged old new result = (entry : Entry) (refused : Option RepoFault) → IsJudged entry refused judged → Stages entry refused old new result
