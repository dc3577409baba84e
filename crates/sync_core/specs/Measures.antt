-- How far a job is from its end, as a number that falls with each answer.
use Rattle.std.specs.Prelude.{◌≢◌, ℕ, ◌+◌, ◌-◌, ◌*◌, ◌<◌, ◌≤◌}
use Rattle.std.specs.Option.{option_map_or}
use Rattle.node_base.specs.declared.limits.TheConstants.{REVISION}
use Rattle.sync_core.specs.declared.answer.Answer.{Answer}
use Rattle.sync_core.specs.declared.answer.Answer.TheVariants as answer
use Rattle.sync_core.specs.declared.state.JobState.{JobState}
use Rattle.sync_core.specs.declared.state.JobState.TheVariants as state
use Rattle.sync_core.specs.declared.sync_job.Known.{Known}
use Rattle.sync_core.specs.declared.sync_job.SyncPhase.{SyncPhase}
use Rattle.sync_core.specs.declared.sync_job.SyncPhase.TheVariants as sync
use Rattle.sync_core.specs.declared.copy_job.CopyPhase.{CopyPhase}
use Rattle.sync_core.specs.declared.copy_job.CopyPhase.TheVariants as copy
use Rattle.sync_core.specs.declared.init_job.InitPhase.{InitPhase}
use Rattle.sync_core.specs.declared.init_job.InitPhase.TheVariants as init
use Rattle.sync_core.specs.Deeds.{Ends}
use Rattle.sync_core.specs.States.{deed_in, after}

-- more revisions than a master can have after revision 0
abbrev pub most : ℕ
most = 65537

-- how many revisions the master has after that one, as far as the job was told
abbrev pub beyond : Known → ℕ → ℕ
beyond known n = option_map_or (λ latest. latest - n) known.latest most

-- before it has looked and asked
abbrev pub at_first : Known → ℕ
at_first known = most + option_map_or (λ latest. latest) known.latest 0

-- a revision takes a sync job less than 13 answers
abbrev pub sync_left : SyncPhase → Known → ℕ
sync_left (sync.Lock token steal) known = 13 * at_first known + 12
sync_left sync.Look known = 13 * at_first known + 11
sync_left (sync.Who shape uuid) known = 13 * at_first known + 10
sync_left (sync.FetchProps n) known = 13 * beyond known known.head + 9
sync_left (sync.Put n props) known = 13 * beyond known known.head + 8
sync_left (sync.Merge n) known = 13 * beyond known known.head + 7
sync_left sync.Clear known = 13 * beyond known known.head + 6
sync_left (sync.SetCopying n) known = 13 * (1 + beyond known n) + 5
sync_left (sync.Fetch n) known = 13 * (1 + beyond known n) + 4
sync_left (sync.Commit n set props) known = 13 * (1 + beyond known n) + 3
sync_left sync.Latest known = 13 * most + 2
sync_left (sync.Release e) known = 1
sync_left (sync.End e) known = 0

-- and a job that copies properties again two
abbrev pub copy_left : CopyPhase → ℕ → ℕ
copy_left copy.Lock high = 2 * high + 7
copy_left copy.Look high = 2 * high + 6
copy_left (copy.Who merged uuid) high = 2 * high + 5
copy_left (copy.FetchProps n) high = 2 * (high - n) + 4
copy_left (copy.Put n props) high = 2 * (high - n) + 3
copy_left (copy.Release e) high = 1
copy_left (copy.End e) high = 0

abbrev pub init_left : InitPhase → ℕ
init_left init.Who = 3
init_left (init.FetchProps uuid) = 2
init_left (init.Init uuid props) = 1
init_left (init.End e) = 0

abbrev pub left : JobState → ℕ
left (state.Init s) = init_left s.phase
left (state.Sync s) = sync_left s.phase s.known
left (state.Copy s) = copy_left s.phase s.high

-- a newest revision is one that can be
abbrev pub CanBe : Answer → Type 0
CanBe (answer.Latest n) = n ≤ REVISION
CanBe _ = Unit {0}

-- each answer to what a job does, unless that is nothing, brings it nearer to its end
abbrev pub ComesNearer : Type 0
ComesNearer = (s : JobState) (a : Answer) → CanBe a → deed_in s ≢ Ends → left (after s a) < left s
