-- What a job does, and what it has when it is answered.
use Rattle.std.specs.Prelude.{ℕ, Some, None}
use Rattle.sync_core.specs.declared.fault.SyncFault.{SyncFault}
use Rattle.sync_core.specs.declared.fault.SyncFault.TheVariants as fault
use Rattle.sync_core.specs.declared.action.Action.{Action}
use Rattle.sync_core.specs.declared.action.Action.TheVariants as action
use Rattle.sync_core.specs.declared.answer.Answer.{Answer}
use Rattle.sync_core.specs.declared.answer.Answer.TheVariants as answer
use Rattle.sync_core.specs.Mirror.{Call, Done, Seen}
use Rattle.sync_core.specs.Calls.{call_of}
use Rattle.sync_core.specs.Jobs.{Job, Lawful, with_identity, with_latest, with_fetched, answered, refused_to}

-- a call of the mirror, a question to the master, or nothing more
pub data Deed : Type 0 where
  Calls : (call : Call) → Deed
  AsksIdentity : Deed
  AsksLatest : Deed
  Fetches : (n : ℕ) → Deed
  FetchesProps : (n : ℕ) → Deed
  Ends : Deed

-- what the code's actions are
abbrev pub deed_of : Action → Deed
deed_of (action.Call call) = Calls (call_of call)
deed_of action.AskIdentity = AsksIdentity
deed_of action.AskLatest = AsksLatest
deed_of (action.Fetch n) = Fetches n
deed_of (action.FetchProps n) = FetchesProps n
deed_of action.End = Ends

-- the refusal in an answer that isn't the one that was asked for: the mirror's own, the master's as 60, and else 61
abbrev pub fault_in : Answer → SyncFault
fault_in (answer.Refused f) = f
fault_in (answer.Failed text) = fault.MasterFailed text
fault_in _ = fault.OutOfTurn

-- a job after the answer to its call
abbrev pub called : Job → Call → Answer → Job
called job call answer.Done = answered job call Done
called job call (answer.Seen standing) = answered job call (Seen standing)
called job call (answer.Refused f) = refused_to job call
called job call _ = job

abbrev pub told_identity : Job → Answer → Job
told_identity job (answer.Identity u) = with_identity job u
told_identity job _ = job

abbrev pub told_latest : Job → Answer → Job
told_latest job (answer.Latest n) = with_latest job n
told_latest job _ = job

-- what is given of a number counts as the master has it at that moment
abbrev pub given_revision : Job → ℕ → ℕ → Answer → Job
given_revision job moment n (answer.Revision set props) = with_fetched job n (Some set) props moment
given_revision job moment n _ = job

abbrev pub given_map : Job → ℕ → ℕ → Answer → Job
given_map job moment n (answer.Map props) = with_fetched job n None props moment
given_map job moment n _ = job

-- a job after the answer to what it did, at that moment of the master
abbrev pub heard : Job → ℕ → Deed → Answer → Job
heard job moment (Calls call) a = called job call a
heard job moment AsksIdentity a = told_identity job a
heard job moment AsksLatest a = told_latest job a
heard job moment (Fetches n) a = given_revision job moment n a
heard job moment (FetchesProps n) a = given_map job moment n a
heard job moment Ends a = job

-- a call is one that the job may make
abbrev pub IsLawfulDeed : Job → Deed → Type 0
IsLawfulDeed job (Calls call) = Lawful job call
IsLawfulDeed job _ = Unit {0}
