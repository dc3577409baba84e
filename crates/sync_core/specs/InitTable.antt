-- An init job's phases: what it does in each, and where each answer leads.
use Rattle.std.specs.Prelude.{ℕ, List, Option, Some, None}
use Rattle.sync_core.specs.declared.init_job.InitPhase.{InitPhase}
use Rattle.sync_core.specs.declared.init_job.InitPhase.TheVariants as phase
use Rattle.sync_core.specs.declared.init_job.InitJob.{InitJob}
use Rattle.sync_core.specs.declared.ending.Ending.{Ending}
use Rattle.sync_core.specs.declared.ending.Ending.TheVariants as ending
use Rattle.sync_core.specs.declared.answer.Answer.{Answer}
use Rattle.sync_core.specs.declared.answer.Answer.TheVariants as answer
use Rattle.sync_core.specs.Mirror.{Init}
use Rattle.sync_core.specs.Deeds.{Deed, Calls, AsksIdentity, FetchesProps, Ends, fault_in}

-- what it does in a phase
abbrev pub deed_in : List ℕ → InitPhase → Deed
deed_in url phase.Who = AsksIdentity
deed_in url (phase.FetchProps uuid) = FetchesProps 0
deed_in url (phase.Init uuid props) = Calls (Init url uuid props)
deed_in url (phase.End e) = Ends

abbrev pub next_deed : InitJob → Deed
next_deed s = deed_in s.url s.phase

-- as a job begins
abbrev pub start : List ℕ → InitJob
start url = record { url = url; phase = phase.Who }

-- a refusal ends the job
abbrev pub refused : Answer → InitPhase
refused a = phase.End (ending.Refused (fault_in a))

abbrev pub after_who : Answer → InitPhase
after_who (answer.Identity uuid) = phase.FetchProps uuid
after_who a = refused a

abbrev pub after_fetch_props : List ℕ → Answer → InitPhase
after_fetch_props uuid (answer.Map props) = phase.Init uuid props
after_fetch_props uuid a = refused a

abbrev pub after_init : Answer → InitPhase
after_init answer.Done = phase.End ending.Fine
after_init a = refused a

-- where an answer leads from a phase
abbrev pub after_in : InitPhase → Answer → InitPhase
after_in phase.Who a = after_who a
after_in (phase.FetchProps uuid) a = after_fetch_props uuid a
after_in (phase.Init uuid props) a = after_init a
after_in (phase.End e) a = phase.End e

abbrev pub after : InitJob → Answer → InitJob
after s a = record { url = s.url; phase = after_in s.phase a }

abbrev pub ending_in : InitPhase → Option Ending
ending_in (phase.End e) = Some e
ending_in _ = None

abbrev pub ending_of : InitJob → Option Ending
ending_of s = ending_in s.phase
