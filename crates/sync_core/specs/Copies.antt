-- What copies of calls and answers keep.
use Rattle.std.specs.Prelude.{◌≡◌, ℕ, List, string_bytes}
use Rattle.node_base.specs.Props.{PropMap}
use Rattle.node_base.specs.Refusals.{refusal_number}
use Rattle.dump_load.specs.declared.change.Change.{Change}
use Rattle.sync_core.specs.declared.answer.Answer.{Answer}
use Rattle.sync_core.specs.declared.answer.Answer.TheVariants as answer
use Rattle.sync_core.specs.declared.fault.SyncFault.{SyncFault}
use Rattle.sync_core.specs.declared.kept_call.KeptCall.{KeptCall}
use Rattle.sync_core.specs.declared.kept_call.KeptCall.TheVariants as kept
use Rattle.sync_core.specs.Faults.{refusal_of, fault_text}
use Rattle.sync_core.specs.Mirror.{Standing, Call, Init, TakeLock, StealLock, ReleaseLock, SetCopying, Commit, PutProps, SetMerged, ClearCopying, Look}

-- the call that is kept
abbrev pub call_in : KeptCall → Call
call_in (kept.Init url uuid props) = Init url uuid props
call_in (kept.TakeLock token) = TakeLock token
call_in (kept.StealLock token) = StealLock token
call_in kept.ReleaseLock = ReleaseLock
call_in (kept.SetCopying n) = SetCopying n
call_in (kept.Commit n set props) = Commit n set props
call_in (kept.PutProps n props) = PutProps n props
call_in (kept.SetMerged n) = SetMerged n
call_in kept.ClearCopying = ClearCopying
call_in kept.Look = Look

-- an answer as it is told: of a refusal its number and its text
pub data Outcome : Type 0 where
  Done : Outcome
  Seen : (standing : Standing) → Outcome
  Identity : (uuid : List ℕ) → Outcome
  Latest : (n : ℕ) → Outcome
  Revision : (set : List Change) → (props : PropMap) → Outcome
  Map : (props : PropMap) → Outcome
  Refused : (number : ℕ) → (text : List ℕ) → Outcome
  Failed : (text : List ℕ) → Outcome

abbrev pub number_in : SyncFault → ℕ
number_in f = refusal_number (refusal_of f)

abbrev pub outcome_of : Answer → Outcome
outcome_of answer.Done = Done
outcome_of (answer.Seen s) = Seen s
outcome_of (answer.Identity u) = Identity u
outcome_of (answer.Latest n) = Latest n
outcome_of (answer.Revision set props) = Revision set props
outcome_of (answer.Map props) = Map props
outcome_of (answer.Refused f) = Refused (number_in f) (fault_text f)
outcome_of (answer.Failed text) = Failed (string_bytes text)

-- a refusal that is told alike
abbrev pub IsToldAs : SyncFault → SyncFault → Type 0
IsToldAs f g = (number_in f ≡ number_in g) × (fault_text f ≡ fault_text g)
