-- What the state of a job that copies properties again says of what the job has heard.
use Rattle.std.specs.Prelude.{◌≡◌, ℕ, ◌-◌, ◌==◌, ◌≤◌, List, Option, Some, None, if◌then◌else◌}
use Rattle.sync_core.specs.declared.copy_job.CopyPhase.{CopyPhase}
use Rattle.sync_core.specs.declared.copy_job.CopyPhase.TheVariants as phase
use Rattle.sync_core.specs.declared.copy_job.CopyJob.{CopyJob}
use Rattle.sync_core.specs.declared.ending.Ending.{Ending}
use Rattle.sync_core.specs.declared.ending.Ending.TheVariants as ending
use Rattle.sync_core.specs.Names.{Spelt}
use Rattle.sync_core.specs.Jobs.{Job, CopyProps, Begun, Locked, GivesMap}

-- the order of a job that copies properties
pub record IsCopying (job : Job) : Type 0 where
  pub token : List ℕ
  pub order : job.order ≡ CopyProps token

-- it has the lock, and what is merged is at least that number
pub record HasMerged (job : Job) (high : ℕ) : Type 0 where
  pub copying : IsCopying job
  pub locked : job.stage ≡ Locked
  pub last : ℕ
  pub merged : job.merged ≡ Spelt last
  pub reached : high ≤ last

-- what a job from that number on has put last, before it comes to n
abbrev pub put_before : ℕ → ℕ → Option ℕ
put_before low n = if n == low then None else Some (n - 1)

-- in its range, with all before it put
pub record IsAt (job : Job) (low high n : ℕ) : Type 0 where
  pub has : HasMerged job high
  pub from : low ≤ n
  pub to : n ≤ high
  pub put : job.put ≡ put_before low n

-- the last of the range was put
abbrev pub EndsFrom : Ending → Job → ℕ → ℕ → Type 0
EndsFrom ending.Fine job low high = low ≤ high → job.put ≡ Some high
EndsFrom (ending.Refused f) job low high = Unit {0}

abbrev pub FollowsIn : List ℕ → CopyPhase → Job → ℕ → ℕ → Type 0
FollowsIn token phase.Lock job low high = (job.order ≡ CopyProps token) × (job.stage ≡ Begun) × (job.put ≡ None)
FollowsIn token phase.Look job low high = IsCopying job × (job.stage ≡ Locked) × (job.put ≡ None)
FollowsIn token (phase.Who merged uuid) job low high = IsCopying job × (job.stage ≡ Locked) × (job.put ≡ None) × (job.merged ≡ merged) × ((last : ℕ) × (merged ≡ Spelt last))
FollowsIn token (phase.FetchProps n) job low high = IsAt job low high n
FollowsIn token (phase.Put n props) job low high = IsAt job low high n × GivesMap job.fetched n props
FollowsIn token (phase.Release e) job low high = (job.stage ≡ Locked) × EndsFrom e job low high
FollowsIn token (phase.End e) job low high = EndsFrom e job low high

-- the job has heard what led to the state
abbrev pub FollowsCopy : Job → CopyJob → Type 0
FollowsCopy job s = FollowsIn s.token s.phase job s.low s.high
