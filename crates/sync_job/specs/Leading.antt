-- What was said in a run leads its mirror, and so by what the master told.
use Rattle.std.specs.Prelude.{◌≡◌, ◌≤◌, ◌<◌, ℕ, List, ◌++◌, length}
use Rattle.std.specs.List.{AllByRecursion, AllZip}
use Rattle.dump_load.specs.declared.change.Change.{Change}
use Rattle.repo_core.specs.Repository.{Repository, trees_of}
use Rattle.sync_core.specs.Jobs.{Order, Job, begun}
use Rattle.sync_core.specs.Mirror.{Call}
use Rattle.sync_core.specs.SyncFollows.{IsSynced}
use Rattle.sync_job.specs.Alone.{IsAnsweredBy, IsHeardOf}
use Rattle.sync_job.specs.Asked.{Asked}
use Rattle.sync_job.specs.Fronts.{counted_in, replayed}
use Rattle.sync_job.specs.Mirrors.{MirrorNow, Steps}
use Rattle.sync_job.specs.Questions.{Exchange, LeadsBy, IsSaidOf, questions_in}
use Rattle.sync_job.specs.Runs.{AreRight, hears_all}
use Rattle.sync_job.specs.Said.{Spoken}
use Rattle.sync_job.specs.Telling.{IsSaidAs, calls_in}
use Rattle.sync_job.specs.Worlds.{AreFirst}

-- a call of the seat 0, as it was answered
abbrev pub IsMirrorStep : MirrorNow → Asked → MirrorNow → Type 0
IsMirrorStep m a now = Steps m 0 a.call a.result now

-- each call that was said is lawful after all that was heard before it
abbrev pub IsLawful : Job → List Spoken → Type 0
IsLawful job said = AreRight (λ _ _. Unit {0}) job said

-- what was said of a mirror's calls leads it from one state to another: each was made once, in order, and no other
pub record LeadsMirror (m : MirrorNow) (said : List Spoken) (now : MirrorNow) : Type 0 where
  pub made : List Asked
  pub steps : LeadsBy IsMirrorStep m made now
  pub told : AllZip IsSaidAs made (calls_in said)

-- what was said of a master's answers is what the port told, each question once, in order, and no other; and of these P is so
pub record TellsMaster (P : Exchange → Type 0) (said : List Spoken) : Type 0 where
  pub made : List Exchange
  pub each : AllByRecursion P made
  pub told : AllZip IsSaidOf made (questions_in said)

-- the trees of the later one are the source's first ones too, and no fewer
pub record StaysFirst (source before later : Repository) : Type 0 where
  pub first : AreFirst (trees_of later.revisions) (trees_of source.revisions)
  pub no_fewer : length before.revisions ≤ length later.revisions

-- where a mirror's trees are the first ones of the repository that its master is, they are so after each front of the calls that
-- count: whatever a stop leaves
abbrev pub FrontsStayFirst : Type 0
FrontsStayFirst =
    (source : Repository) (order : Order) (said : List Spoken) (m now : MirrorNow) → IsLawful (begun order) said
    → TellsMaster (IsHeardOf source) said → LeadsMirror m said now → 0 < length m.repository.revisions → AreFirst (trees_of m.repository.revisions) (trees_of source.revisions)
    → (front rest : List Call) → front ++ rest ≡ counted_in said → StaysFirst source m.repository (replayed m.repository front)

-- the sets of one are the other's first ones
abbrev pub HasFirstSets : Repository → Repository → Type 0
HasFirstSets source r = (rest : List (List Change)) × (r.sets ++ rest ≡ source.sets)

-- where the sets of a mirror, one for each revision, are the first ones of the repository that its master is and whose own sets it
-- gives, they are so after each front of the calls that count
abbrev pub FrontsKeepSets : Type 0
FrontsKeepSets =
    (source : Repository) (order : Order) (said : List Spoken) (m now : MirrorNow) → IsLawful (begun order) said
    → TellsMaster (IsAnsweredBy source) said → LeadsMirror m said now → 0 < length m.repository.revisions → length m.repository.sets ≡ length m.repository.revisions → HasFirstSets source m.repository
    → (front rest : List Call) → front ++ rest ≡ counted_in said → HasFirstSets source (replayed m.repository front)

-- a job that ends well by what it has heard of that master leaves a mirror with as many revisions
abbrev pub SyncedHasAll : Type 0
SyncedHasAll =
    (source : Repository) (order : Order) (said : List Spoken) (m now : MirrorNow) → TellsMaster (IsHeardOf source) said → LeadsMirror m said now → 0 < length m.repository.revisions
    → IsSynced (hears_all (begun order) said) → length source.revisions ≤ length now.repository.revisions
