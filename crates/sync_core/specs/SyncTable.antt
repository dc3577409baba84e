-- A sync job's phases: what it does in each, and where each answer leads.
use Rattle.std.specs.Prelude.{ℕ, ◌+◌, nat_lt, Bool, true, false, Option, Some, None, is_none, List, if◌then◌else◌}
use Rattle.std.specs.Option.{option_map_or}
use Rattle.node_base.specs.declared.limits.TheConstants.{REVISION}
use Rattle.sync_core.specs.declared.sync_job.Known.{Known}
use Rattle.sync_core.specs.declared.sync_job.SyncPhase.{SyncPhase}
use Rattle.sync_core.specs.declared.sync_job.SyncPhase.TheVariants as phase
use Rattle.sync_core.specs.declared.sync_job.SyncJob.{SyncJob}
use Rattle.sync_core.specs.declared.fault.SyncFault.{SyncFault}
use Rattle.sync_core.specs.declared.fault.SyncFault.TheVariants as fault
use Rattle.sync_core.specs.declared.ending.Ending.{Ending}
use Rattle.sync_core.specs.declared.ending.Ending.TheVariants as ending
use Rattle.sync_core.specs.declared.answer.Answer.{Answer}
use Rattle.sync_core.specs.declared.answer.Answer.TheVariants as answer
use Rattle.sync_core.specs.declared.resting.Resting.{Resting}
use Rattle.sync_core.specs.declared.resting.Resting.TheVariants as resting
use Rattle.sync_core.specs.Names.{Absent, Spelt, is_absent}
use Rattle.sync_core.specs.Mirror.{Standing, Call, TakeLock, StealLock, ReleaseLock, SetCopying, Commit, PutProps, SetMerged, ClearCopying, Look}
use Rattle.sync_core.specs.Deeds.{Deed, Calls, AsksIdentity, AsksLatest, Fetches, FetchesProps, Ends, fault_in}
use Rattle.sync_core.specs.Faults.{told_of, inconsistent_as}
use Rattle.sync_core.specs.Shapes.{shape_in}
use Rattle.sync_core.specs.Endings.{released}
use Rattle.sync_core.specs.Identities.{is_identity}

abbrev pub lock_call : List ℕ → Bool → Call
lock_call token true = StealLock token
lock_call token false = TakeLock token

-- what it does in a phase
abbrev pub deed_in : SyncPhase → Deed
deed_in (phase.Lock token steal) = Calls (lock_call token steal)
deed_in phase.Look = Calls Look
deed_in (phase.Who shape uuid) = AsksIdentity
deed_in phase.Latest = AsksLatest
deed_in (phase.SetCopying n) = Calls (SetCopying n)
deed_in (phase.Fetch n) = Fetches n
deed_in (phase.Commit n set props) = Calls (Commit n set props)
deed_in (phase.FetchProps n) = FetchesProps n
deed_in (phase.Put n props) = Calls (PutProps n props)
deed_in (phase.Merge n) = Calls (SetMerged n)
deed_in phase.Clear = Calls ClearCopying
deed_in (phase.Release e) = Calls ReleaseLock
deed_in (phase.End e) = Ends

abbrev pub next_deed : SyncJob → Deed
next_deed s = deed_in s.phase

abbrev pub at : Known → SyncPhase → SyncJob
at known phase = record { known = known; phase = phase }

-- as a job begins: it knows nothing yet
abbrev pub start : List ℕ → Bool → SyncJob
start token steal = at (record { merged = Absent; copying = Absent; head = 0; latest = None }) (phase.Lock token steal)

-- gives the lock back, and then ends with that refusal
abbrev pub give_up : Known → SyncFault → SyncJob
give_up known f = at known (phase.Release (ending.Refused f))

-- what is told of a number that no revision has
abbrev pub inconsistent : Known → SyncFault
inconsistent known = fault.Inconsistent (told_of known.merged None) (told_of known.copying None) known.head

-- Lock: a refusal ends the job with it
abbrev pub after_lock : Known → Answer → SyncJob
after_lock known answer.Done = at known phase.Look
after_lock known a = at known (phase.End (ending.Refused (fault_in a)))

-- what a look tells
abbrev pub seen : Known → Standing → Known
seen known s = record { merged = s.merged; copying = s.copying; head = s.head; latest = known.latest }

-- Look: a mirror that isn't initialised, or in no shape, is left
abbrev pub looked : Known → Standing → SyncJob
looked known s = if is_none s.url then give_up known fault.NotInitialised else option_map_or (λ shape. at known (phase.Who shape s.uuid)) (shape_in s.merged s.copying s.head) (give_up known (inconsistent_as s))

abbrev pub after_look : Known → Answer → SyncJob
after_look known (answer.Seen s) = looked (seen known s) s
after_look known a = give_up known (fault_in a)

-- where an earlier job stopped: the properties of a revision that is committed are copied again; one that is merged has only to
-- be noted so
abbrev pub resumed : Resting → ℕ → SyncPhase
resumed resting.Idle head = phase.Latest
resumed (resting.Copying n) head = phase.Latest
resumed (resting.Committed n) head = phase.FetchProps head
resumed resting.Merged head = phase.Clear

-- Who: another master than the mirror's is left
abbrev pub after_who : Known → Resting → Option (List ℕ) → Answer → SyncJob
after_who known shape uuid (answer.Identity found) = if is_identity uuid found then at known (resumed shape known.head) else give_up known fault.WrongMaster
after_who known shape uuid a = give_up known (fault_in a)

-- Next: a revision that is noted as being copied is fetched; else the next one is begun, where the master has more. (After
-- revision 65,535 there is none that could be fetched.)
abbrev pub next : Known → ℕ → SyncPhase
next known latest =
    if is_absent known.copying then (if nat_lt known.head latest then phase.SetCopying (known.head + 1) else phase.Release ending.Fine)
    else (if nat_lt known.head REVISION then phase.Fetch (known.head + 1) else phase.Release (ending.Refused (inconsistent known)))

abbrev pub after_latest : Known → Answer → SyncJob
after_latest known (answer.Latest n) = at (record known { latest = Some n }) (next (record known { latest = Some n }) n)
after_latest known a = give_up known (fault_in a)

abbrev pub after_set_copying : Known → ℕ → Answer → SyncJob
after_set_copying known n answer.Done = at (record known { copying = Spelt n }) (phase.Fetch n)
after_set_copying known n a = give_up known (fault_in a)

abbrev pub after_fetch : Known → ℕ → Answer → SyncJob
after_fetch known n (answer.Revision set props) = at known (phase.Commit n set props)
after_fetch known n a = give_up known (fault_in a)

abbrev pub after_commit : Known → ℕ → Answer → SyncJob
after_commit known n answer.Done = at (record known { head = n }) (phase.FetchProps n)
after_commit known n a = give_up known (fault_in a)

abbrev pub after_fetch_props : Known → ℕ → Answer → SyncJob
after_fetch_props known n (answer.Map props) = at known (phase.Put n props)
after_fetch_props known n a = give_up known (fault_in a)

abbrev pub after_put : Known → ℕ → Answer → SyncJob
after_put known n answer.Done = at known (phase.Merge n)
after_put known n a = give_up known (fault_in a)

abbrev pub after_merge : Known → ℕ → Answer → SyncJob
after_merge known n answer.Done = at (record known { merged = Spelt n }) phase.Clear
after_merge known n a = give_up known (fault_in a)

-- Clear: the master is asked for its newest revision once
abbrev pub cleared : Known → SyncJob
cleared known = option_map_or (λ n. at known (next known n)) known.latest (at known phase.Latest)

abbrev pub after_clear : Known → Answer → SyncJob
after_clear known answer.Done = cleared (record known { copying = Absent })
after_clear known a = give_up known (fault_in a)

-- where an answer leads from a phase
abbrev pub after_in : SyncPhase → Known → Answer → SyncJob
after_in (phase.Lock token steal) known a = after_lock known a
after_in phase.Look known a = after_look known a
after_in (phase.Who shape uuid) known a = after_who known shape uuid a
after_in phase.Latest known a = after_latest known a
after_in (phase.SetCopying n) known a = after_set_copying known n a
after_in (phase.Fetch n) known a = after_fetch known n a
after_in (phase.Commit n set props) known a = after_commit known n a
after_in (phase.FetchProps n) known a = after_fetch_props known n a
after_in (phase.Put n props) known a = after_put known n a
after_in (phase.Merge n) known a = after_merge known n a
after_in phase.Clear known a = after_clear known a
after_in (phase.Release e) known a = at known (phase.End (released e a))
after_in (phase.End e) known a = at known (phase.End e)

abbrev pub after : SyncJob → Answer → SyncJob
after s a = after_in s.phase s.known a

abbrev pub ending_in : SyncPhase → Option Ending
ending_in (phase.End e) = Some e
ending_in _ = None

abbrev pub ending_of : SyncJob → Option Ending
ending_of s = ending_in s.phase
