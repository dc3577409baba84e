-- The phases of a job that copies properties again: what it does in each, and where each answer leads.
use Rattle.std.specs.Prelude.{ℕ, ◌+◌, nat_le, nat_lt, not, Option, Some, None, is_none, is_some, List, if◌then◌else◌}
use Rattle.sync_core.specs.declared.copy_job.CopyPhase.{CopyPhase}
use Rattle.sync_core.specs.declared.copy_job.CopyPhase.TheVariants as phase
use Rattle.sync_core.specs.declared.copy_job.CopyJob.{CopyJob}
use Rattle.sync_core.specs.declared.fault.SyncFault.{SyncFault}
use Rattle.sync_core.specs.declared.fault.SyncFault.TheVariants as fault
use Rattle.sync_core.specs.declared.ending.Ending.{Ending}
use Rattle.sync_core.specs.declared.ending.Ending.TheVariants as ending
use Rattle.sync_core.specs.declared.answer.Answer.{Answer}
use Rattle.sync_core.specs.declared.answer.Answer.TheVariants as answer
use Rattle.sync_core.specs.Names.{Number, reaches}
use Rattle.sync_core.specs.Mirror.{Standing, TakeLock, ReleaseLock, PutProps, Look}
use Rattle.sync_core.specs.Deeds.{Deed, Calls, AsksIdentity, FetchesProps, Ends, fault_in}
use Rattle.sync_core.specs.Faults.{inconsistent_as}
use Rattle.sync_core.specs.Shapes.{shape_in}
use Rattle.sync_core.specs.Endings.{released}
use Rattle.sync_core.specs.Identities.{is_identity}

-- what it does in a phase
abbrev pub deed_in : List ℕ → CopyPhase → Deed
deed_in token phase.Lock = Calls (TakeLock token)
deed_in token phase.Look = Calls Look
deed_in token (phase.Who merged uuid) = AsksIdentity
deed_in token (phase.FetchProps n) = FetchesProps n
deed_in token (phase.Put n props) = Calls (PutProps n props)
deed_in token (phase.Release e) = Calls ReleaseLock
deed_in token (phase.End e) = Ends

abbrev pub next_deed : CopyJob → Deed
next_deed s = deed_in s.token s.phase

-- as a job begins
abbrev pub start : List ℕ → ℕ → ℕ → CopyJob
start token low high = record { token = token; low = low; high = high; phase = phase.Lock }

-- gives the lock back, and then ends with that refusal
abbrev pub give_up : SyncFault → CopyPhase
give_up f = phase.Release (ending.Refused f)

-- Lock: a refusal ends the job with it
abbrev pub after_lock : Answer → CopyPhase
after_lock answer.Done = phase.Look
after_lock a = phase.End (ending.Refused (fault_in a))

-- Look: a mirror that isn't initialised, or in no shape, is left
abbrev pub looked : Standing → CopyPhase
looked s = if is_none s.url then give_up fault.NotInitialised else if is_some (shape_in s.merged s.copying s.head) then phase.Who s.merged s.uuid else give_up (inconsistent_as s)

abbrev pub after_look : Answer → CopyPhase
after_look (answer.Seen s) = looked s
after_look a = give_up (fault_in a)

-- a range that isn't merged whole is left
abbrev pub begin : ℕ → ℕ → Number → CopyPhase
begin low high merged = if not (reaches merged high) then give_up (fault.NotYetCopied high) else if nat_le low high then phase.FetchProps low else phase.Release ending.Fine

-- Who: another master than the mirror's is left
abbrev pub after_who : ℕ → ℕ → Number → Option (List ℕ) → Answer → CopyPhase
after_who low high merged uuid (answer.Identity found) = if is_identity uuid found then begin low high merged else give_up fault.WrongMaster
after_who low high merged uuid a = give_up (fault_in a)

abbrev pub after_fetch_props : ℕ → Answer → CopyPhase
after_fetch_props n (answer.Map props) = phase.Put n props
after_fetch_props n a = give_up (fault_in a)

-- the next of the range
abbrev pub next : ℕ → ℕ → CopyPhase
next high n = if nat_lt n high then phase.FetchProps (n + 1) else phase.Release ending.Fine

abbrev pub after_put : ℕ → ℕ → Answer → CopyPhase
after_put high n answer.Done = next high n
after_put high n a = give_up (fault_in a)

-- where an answer leads from a phase
abbrev pub after_in : CopyPhase → ℕ → ℕ → Answer → CopyPhase
after_in phase.Lock low high a = after_lock a
after_in phase.Look low high a = after_look a
after_in (phase.Who merged uuid) low high a = after_who low high merged uuid a
after_in (phase.FetchProps n) low high a = after_fetch_props n a
after_in (phase.Put n props) low high a = after_put high n a
after_in (phase.Release e) low high a = phase.End (released e a)
after_in (phase.End e) low high a = phase.End e

abbrev pub after : CopyJob → Answer → CopyJob
after s a = record { token = s.token; low = s.low; high = s.high; phase = after_in s.phase s.low s.high a }

abbrev pub ending_in : CopyPhase → Option Ending
ending_in (phase.End e) = Some e
ending_in _ = None

abbrev pub ending_of : CopyJob → Option Ending
ending_of s = ending_in s.phase
