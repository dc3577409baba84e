-- Jobs' states: what a job does in each, where an answer leads, and what a state says of what the job has heard.
use Rattle.std.specs.Prelude.{◌≡◌, ℕ, ◌≤◌, Bool, List, Option}
use Rattle.sync_core.specs.declared.state.JobState.{JobState}
use Rattle.sync_core.specs.declared.state.JobState.TheVariants as state
use Rattle.sync_core.specs.declared.answer.Answer.{Answer}
use Rattle.sync_core.specs.declared.ending.Ending.{Ending}
use Rattle.sync_core.specs.Names.{Spelt}
use Rattle.sync_core.specs.Jobs.{Job, Locked}
use Rattle.sync_core.specs.Deeds.{Deed, AsksLatest, Fetches, FetchesProps}
use Rattle.sync_core.specs.InitTable as init
use Rattle.sync_core.specs.SyncTable as sync
use Rattle.sync_core.specs.CopyTable as copy
use Rattle.sync_core.specs.InitFollows.{FollowsInit}
use Rattle.sync_core.specs.SyncFollows.{FollowsSync}
use Rattle.sync_core.specs.CopyFollows.{FollowsCopy}

-- as jobs begin
abbrev pub init_start : List ℕ → JobState
init_start url = state.Init (init.start url)

abbrev pub sync_start : List ℕ → Bool → JobState
sync_start token steal = state.Sync (sync.start token steal)

abbrev pub copy_start : List ℕ → ℕ → ℕ → JobState
copy_start token low high = state.Copy (copy.start token low high)

abbrev pub deed_in : JobState → Deed
deed_in (state.Init s) = init.next_deed s
deed_in (state.Sync s) = sync.next_deed s
deed_in (state.Copy s) = copy.next_deed s

abbrev pub after : JobState → Answer → JobState
after (state.Init s) a = state.Init (init.after s a)
after (state.Sync s) a = state.Sync (sync.after s a)
after (state.Copy s) a = state.Copy (copy.after s a)

abbrev pub ending_of : JobState → Option Ending
ending_of (state.Init s) = init.ending_of s
ending_of (state.Sync s) = sync.ending_of s
ending_of (state.Copy s) = copy.ending_of s

-- the job has heard what led to the state
abbrev pub Follows : Job → JobState → Type 0
Follows job (state.Init s) = FollowsInit job s
Follows job (state.Sync s) = FollowsSync job s
Follows job (state.Copy s) = FollowsCopy job s

-- a revision that is asked for: by a sync job the one that is being copied, by a copying job one of its range, by an init job 0
abbrev pub IsNumberOf : JobState → Job → ℕ → Type 0
IsNumberOf (state.Init s) job n = n ≡ 0
IsNumberOf (state.Sync s) job n = job.copying ≡ Spelt n
IsNumberOf (state.Copy s) job n = (s.low ≤ n) × (n ≤ s.high)

-- and the newest revision under the job's lock alone
abbrev pub IsAskedFor : JobState → Job → Deed → Type 0
IsAskedFor s job (Fetches n) = IsNumberOf s job n
IsAskedFor s job (FetchesProps n) = IsNumberOf s job n
IsAskedFor s job AsksLatest = job.stage ≡ Locked
IsAskedFor s job _ = Unit {0}
