-- What an init job's state says of what the job has heard.
use Rattle.std.specs.Prelude.{◌≡◌, ℕ, List, Some}
use Rattle.sync_core.specs.declared.init_job.InitPhase.{InitPhase}
use Rattle.sync_core.specs.declared.init_job.InitPhase.TheVariants as phase
use Rattle.sync_core.specs.declared.init_job.InitJob.{InitJob}
use Rattle.sync_core.specs.Jobs.{Job, Initialise, Begun, GivesMap}

-- the job has made no call
pub record HasBegun (job : Job) (url : List ℕ) : Type 0 where
  pub order : job.order ≡ Initialise url
  pub begun : job.stage ≡ Begun

abbrev pub FollowsIn : InitPhase → Job → List ℕ → Type 0
FollowsIn phase.Who job url = HasBegun job url
FollowsIn (phase.FetchProps uuid) job url = HasBegun job url × (job.identity ≡ Some uuid)
FollowsIn (phase.Init uuid props) job url = HasBegun job url × (job.identity ≡ Some uuid) × GivesMap job.fetched 0 props
FollowsIn (phase.End e) job url = Unit {0}

-- the job has heard what led to the state
abbrev pub FollowsInit : Job → InitJob → Type 0
FollowsInit job s = FollowsIn s.phase job s.url
