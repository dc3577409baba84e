-- What a sync job's state says of what the job has heard.
use Rattle.std.specs.Prelude.{◌≡◌, ℕ, ◌+◌, ◌<◌, ◌≤◌, ◌⊎◌, Bool, List, Some}
use Rattle.sync_core.specs.declared.sync_job.Known.{Known}
use Rattle.sync_core.specs.declared.sync_job.SyncPhase.{SyncPhase}
use Rattle.sync_core.specs.declared.sync_job.SyncPhase.TheVariants as phase
use Rattle.sync_core.specs.declared.sync_job.SyncJob.{SyncJob}
use Rattle.sync_core.specs.declared.ending.Ending.{Ending}
use Rattle.sync_core.specs.declared.ending.Ending.TheVariants as ending
use Rattle.sync_core.specs.declared.resting.Resting.{Resting}
use Rattle.sync_core.specs.declared.resting.Resting.TheVariants as resting
use Rattle.sync_core.specs.Mirror.{HasShape}
use Rattle.sync_core.specs.Jobs.{Job, Sync, Begun, Locked, GivesSet, GivesMap}

-- a sync job's order
pub record IsSync (job : Job) : Type 0 where
  pub token : List ℕ
  pub steal : Bool
  pub order : job.order ≡ Sync token steal

-- the job has the lock, and what it has heard is what the state has
pub record Knows (job : Job) (known : Known) : Type 0 where
  pub sync : IsSync job
  pub locked : job.stage ≡ Locked
  pub merged : job.merged ≡ known.merged
  pub copying : job.copying ≡ known.copying
  pub head : job.head ≡ known.head
  pub latest : job.latest ≡ known.latest

abbrev pub IsIn : Known → Resting → Type 0
IsIn known shape = HasShape shape known.merged known.copying known.head

-- the mirror has all that the master had when it was asked, and nothing is being copied
pub record IsSynced (job : Job) : Type 0 where
  pub latest : ℕ
  pub told : job.latest ≡ Some latest
  pub idle : HasShape resting.Idle job.merged job.copying job.head
  pub all : latest ≤ job.head

abbrev pub EndsFrom : Ending → Job → Type 0
EndsFrom ending.Fine job = IsSynced job
EndsFrom (ending.Refused f) job = Unit {0}

abbrev pub FollowsIn : SyncPhase → Job → Known → Type 0
FollowsIn (phase.Lock token steal) job known = (job.order ≡ Sync token steal) × (job.stage ≡ Begun) × (job.latest ≡ known.latest)
FollowsIn phase.Look job known = IsSync job × (job.stage ≡ Locked) × (job.latest ≡ known.latest)
FollowsIn (phase.Who shape uuid) job known = Knows job known × IsIn known shape
FollowsIn phase.Latest job known = Knows job known × (IsIn known resting.Idle ⊎ ((n : ℕ) × IsIn known (resting.Copying n)))
FollowsIn (phase.SetCopying n) job known = Knows job known × IsIn known resting.Idle × (n ≡ known.head + 1) × ((latest : ℕ) × (known.latest ≡ Some latest) × (known.head < latest))
FollowsIn (phase.Fetch n) job known = Knows job known × IsIn known (resting.Copying n)
FollowsIn (phase.Commit n set props) job known = Knows job known × IsIn known (resting.Copying n) × GivesSet job.fetched n set props
FollowsIn (phase.FetchProps n) job known = Knows job known × IsIn known (resting.Committed n)
FollowsIn (phase.Put n props) job known = Knows job known × IsIn known (resting.Committed n) × GivesMap job.fetched n props
FollowsIn (phase.Merge n) job known = Knows job known × IsIn known (resting.Committed n) × (job.put ≡ Some n)
FollowsIn phase.Clear job known = Knows job known × IsIn known resting.Merged
FollowsIn (phase.Release e) job known = (job.stage ≡ Locked) × EndsFrom e job
FollowsIn (phase.End e) job known = EndsFrom e job

-- the job has heard what led to the state
abbrev pub FollowsSync : Job → SyncJob → Type 0
FollowsSync job s = FollowsIn s.phase job s.known
