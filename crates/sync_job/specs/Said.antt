-- What is said through the ports of a job.
use Rattle.std.specs.Prelude.{◌≡◌, ◌≢◌, ℕ, List, [], ◌∷◌, ◌++◌, map}
use Rattle.sync_core.specs.declared.answer.Answer.{Answer}
use Rattle.sync_core.specs.declared.answer.Answer.TheVariants as answer
use Rattle.sync_core.specs.declared.fault.SyncFault.{SyncFault}
use Rattle.sync_core.specs.declared.fault.SyncFault.TheVariants.{OutOfMemory}
use Rattle.sync_core.specs.Mirror.{Call, Init, ReleaseLock, Commit, PutProps}
use Rattle.sync_core.specs.Deeds.{Deed, Calls, AsksIdentity, AsksLatest, Fetches, FetchesProps, Ends}
use Rattle.sync_job.specs.declared.report.Told.{Told}
use Rattle.sync_job.specs.declared.report.Told.TheVariants.{Committed, Copied}
use Rattle.sync_job.specs.declared.port_call.PortCall.{PortCall}
use Rattle.sync_job.specs.declared.port_call.PortCall.TheVariants as port
use Rattle.sync_core.specs.Copies.{Outcome, outcome_of}
use Rattle.sync_job.specs.Kept.{IsWrite, IsLook, refused_as}
use Rattle.sync_job.specs.Seen.{call_seen}

-- a call or a question with its answer, a tree that was refused, or what was told
pub data Spoken : Type 0 where
  Says : (deed : Deed) → (outcome : Outcome) → Spoken
  NoTree : (n : ℕ) → (outcome : Outcome) → Spoken
  Tells : (told : Told) → Spoken

abbrev pub spoken : PortCall → Spoken
spoken (port.Step call a) = Says (Calls (call_seen call)) (outcome_of a.value)
spoken (port.Identity a) = Says AsksIdentity (outcome_of a.value)
spoken (port.Latest a) = Says AsksLatest (outcome_of a.value)
spoken (port.Fetch n a) = Says (Fetches n) (outcome_of a.value)
spoken (port.FetchProps n a) = Says (FetchesProps n) (outcome_of a.value)
spoken (port.NoTree n f) = NoTree n (refused_as f.value)
spoken (port.Told t) = Tells t

-- what is told of an accepted call
abbrev pub told_of : Call → List Told
told_of (Init url uuid props) = Copied 0 ∷ []
told_of (Commit n set props) = Committed n ∷ []
told_of (PutProps n props) = Copied n ∷ []
told_of _ = []

-- what is told once a call is answered
abbrev pub told_by : Deed → Answer → List Told
told_by (Calls call) answer.Done = told_of call
told_by _ _ = []

-- what is said of a deed that is done, with its answer, and then told
abbrev pub made : Deed → Answer → List Spoken
made d a = Says d (outcome_of a) ∷ map Tells (told_by d a)

-- all that was told, as it is said
abbrev pub told_in : List Spoken → List Told
told_in [] = []
told_in (Says d o ∷ es) = told_in es
told_in (NoTree n o ∷ es) = told_in es
told_in (Tells t ∷ es) = t ∷ told_in es

-- the mirror's answer to a call, or a refusal
abbrev pub FitsCall : Call → Answer → Type 0
FitsCall call answer.Done = IsWrite call
FitsCall call (answer.Seen s) = IsLook call
FitsCall call (answer.Refused f) = Unit {0}
FitsCall call _ = ⊥

-- the answer that was asked for, or a refusal
abbrev pub Fits : Deed → Answer → Type 0
Fits (Calls call) a = FitsCall call a
Fits AsksIdentity (answer.Identity u) = Unit {0}
Fits AsksLatest (answer.Latest n) = Unit {0}
Fits (Fetches n) (answer.Revision set props) = Unit {0}
Fits (FetchesProps n) (answer.Map props) = Unit {0}
Fits Ends a = ⊥
Fits d (answer.Failed text) = Unit {0}
Fits d (answer.Refused f) = Unit {0}
Fits d _ = ⊥

-- a question to the master
abbrev pub IsQuestion : Deed → Type 0
IsQuestion (Calls call) = ⊥
IsQuestion AsksIdentity = Unit {0}
IsQuestion AsksLatest = Unit {0}
IsQuestion (Fetches n) = Unit {0}
IsQuestion (FetchesProps n) = Unit {0}
IsQuestion Ends = ⊥

-- a deed is done and answered; or it isn't done, for want of memory, or since the mirror refuses a tree that it takes. A release of
-- the lock is always done: there is room for it before it is due
pub data IsRound (d : Deed) (a : Answer) (more : List Spoken) : Type 0 where
  Done : Fits d a → more ≡ made d a → IsRound d a more
  Lacking : a ≡ answer.Refused OutOfMemory → more ≡ [] → d ≢ Calls ReleaseLock → IsRound d a more
  Treeless : (of n : ℕ) → (f : SyncFault) → d ≡ Fetches of → a ≡ answer.Refused f → more ≡ NoTree n (refused_as f) ∷ [] → IsRound d a more

-- what one deed adds to all that was said and told
pub record Acted {B : Type 0} (d : Deed) (a : Answer) (old new : List Spoken) (heard_old heard_new : B → List Told → Type 0) : Type 0 where
  pub more : List Spoken
  pub round : IsRound d a more
  pub adds : new ≡ old ++ more
  pub tells : (first : B) (told : List Told) → heard_old first told → heard_new first (told ++ told_in more)
