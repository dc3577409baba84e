-- Runs of jobs: what is said in them, and how they end.
use Rattle.std.specs.Prelude.{◌≡◌, ◌≢◌, ◌⊎◌, ℕ, ◌+◌, ◌-◌, ◌≤◌, nat_lt, Bool, true, false, List, [], ◌∷◌, ◌++◌, Some, None, is_none, Result, Ok, Err, string_bytes}
use Rattle.std.specs.List.{range_with_len}
use Rattle.node_base.specs.Props.{PropMap}
use Rattle.node_base.specs.declared.limits.TheConstants.{REVISION}
use Rattle.sync_core.specs.declared.answer.Answer.{Answer}
use Rattle.sync_core.specs.declared.answer.Answer.TheVariants as answer
use Rattle.sync_core.specs.declared.ending.Ending.{Ending}
use Rattle.sync_core.specs.declared.ending.Ending.TheVariants as ending
use Rattle.sync_core.specs.declared.fault.SyncFault.{SyncFault}
use Rattle.sync_core.specs.declared.fault.SyncFault.TheVariants as fault
use Rattle.sync_core.specs.declared.state.JobState.{JobState}
use Rattle.sync_core.specs.declared.number.Number.TheVariants.{Spelt}
use Rattle.sync_core.specs.Mirror.{Init, ReleaseLock, PutProps, Look}
use Rattle.sync_core.specs.Jobs.{Job, Order, Initialise, Sync, CopyProps, Locked, begun}
use Rattle.sync_core.specs.declared.standing.Standing.{Standing}
use Rattle.sync_core.specs.Faults.{inconsistent_as}
use Rattle.sync_core.specs.Faults as numbers
use Rattle.sync_core.specs.Identities.{is_identity}
use Rattle.sync_core.specs.Names.{reaches, is_absent}
use Rattle.sync_core.specs.Shapes.{shape_in}
use Rattle.sync_core.specs.SyncFollows.{IsSynced}
use Rattle.sync_core.specs.Deeds.{Deed, Calls, AsksIdentity, AsksLatest, Fetches, FetchesProps, Ends, IsLawfulDeed, heard}
use Rattle.sync_core.specs.States.{deed_in, after, ending_of}
use Rattle.sync_job.specs.declared.report.Told.{Told}
use Rattle.sync_core.specs.Copies.{Outcome}
use Rattle.sync_job.specs.Kept.{refused_as}
use Rattle.sync_core.specs.Copies as told
use Rattle.sync_job.specs.Said.{Spoken, Says, NoTree, Tells, told_of, told_in, IsRound}

-- one deed of a job: how it was answered, and what was said
pub record Round : Type 0 where
  pub answer : Answer
  pub more : List Spoken

abbrev pub said_by : List Round → List Spoken
said_by [] = []
said_by (r ∷ rs) = r.more ++ said_by rs

-- from one state of a job these rounds lead to another
abbrev pub Goes : JobState → List Round → JobState → Type 0
Goes s [] t = t ≡ s
Goes s (r ∷ rs) t = IsRound (deed_in s) r.answer r.more × Goes (after s r.answer) rs t

-- a run as far as it has come, with what it has added to all that was said and told
pub record Going {B : Type 0} (s : JobState) (old new : List Spoken) (heard_old heard_new : B → List Told → Type 0) (t : JobState) : Type 0 where
  pub rounds : List Round
  pub goes : Goes s rounds t
  pub adds : new ≡ old ++ said_by rounds
  pub tells : (first : B) (told : List Told) → heard_old first told → heard_new first (told ++ told_in (said_by rounds))

-- a run to its job's end
pub record Ran {B : Type 0} (s : JobState) (old new : List Spoken) (heard_old heard_new : B → List Told → Type 0) (e : Ending) : Type 0 where
  pub last : JobState
  pub going : Going s old new heard_old heard_new last
  pub ended : ending_of last ≡ Some e

-- how a run ended, as an answer
abbrev pub answer_to : Ending → Result (Unit {0}) SyncFault
answer_to ending.Fine = Ok tt
answer_to (ending.Refused f) = Err f

-- an answer that tells a job the same
abbrev pub answer_of : Outcome → Answer
answer_of told.Done = answer.Done
answer_of (told.Seen s) = answer.Seen s
answer_of (told.Identity u) = answer.Identity u
answer_of (told.Latest n) = answer.Latest n
answer_of (told.Revision set props) = answer.Revision set props
answer_of (told.Map props) = answer.Map props
answer_of (told.Refused number text) = answer.Refused fault.OutOfTurn
answer_of (told.Failed text) = answer.Refused fault.OutOfTurn

-- a job after what was said
abbrev pub hears : Job → Spoken → Job
hears job (Says d o) = heard job 0 d (answer_of o)
hears job (NoTree n o) = job
hears job (Tells t) = job

abbrev pub hears_all : Job → List Spoken → Job
hears_all job [] = job
hears_all job (e ∷ es) = hears_all (hears job e) es

-- the master is asked for its newest revision by a job that has its lock, and for a revision by its right number
abbrev pub IsAsked : (Job → ℕ → Type 0) → Job → Deed → Type 0
IsAsked IsNumber job (Calls call) = Unit {0}
IsAsked IsNumber job AsksIdentity = Unit {0}
IsAsked IsNumber job AsksLatest = job.stage ≡ Locked
IsAsked IsNumber job (Fetches n) = IsNumber job n
IsAsked IsNumber job (FetchesProps n) = IsNumber job n
IsAsked IsNumber job Ends = ⊥

abbrev pub IsRight : (Job → ℕ → Type 0) → Job → Spoken → Type 0
IsRight IsNumber job (Says d o) = IsLawfulDeed job d × IsAsked IsNumber job d
IsRight IsNumber job (NoTree n o) = Unit {0}
IsRight IsNumber job (Tells t) = Unit {0}

-- each call is lawful after all that was heard before it, and each question is asked rightly
abbrev pub AreRight : (Job → ℕ → Type 0) → Job → List Spoken → Type 0
AreRight IsNumber job [] = Unit {0}
AreRight IsNumber job (e ∷ es) = IsRight IsNumber job e × AreRight IsNumber (hears job e) es

-- what is due to be told once this is said
abbrev pub due : Deed → Outcome → List Told
due (Calls call) told.Done = told_of call
due _ _ = []

-- right behind each accepted call what is due is told, and nothing else is told
abbrev pub ReportedFrom : List Told → List Spoken → Type 0
ReportedFrom [] [] = Unit {0}
ReportedFrom [] (Says d o ∷ es) = ReportedFrom (due d o) es
ReportedFrom [] (NoTree n o ∷ es) = ReportedFrom [] es
ReportedFrom [] (Tells t ∷ es) = ⊥
ReportedFrom (t ∷ ts) [] = ⊥
ReportedFrom (t ∷ ts) (e ∷ es) = (e ≡ Tells t) × ReportedFrom ts es

abbrev pub IsSaid : Spoken → List Spoken → Type 0
IsSaid e [] = ⊥
IsSaid e (x ∷ xs) = (x ≡ e) ⊎ IsSaid e xs

-- a look of this run saw the mirror stand so
abbrev pub IsLooked : Standing → List Spoken → Type 0
IsLooked s es = IsSaid (Says (Calls Look) (told.Seen s)) es

-- the master has another identity than the mirror that was looked at (56)
pub record IsForeign (es : List Spoken) (found : List ℕ) (f : SyncFault) : Type 0 where
  pub standing : Standing
  pub looked : IsLooked standing es
  pub other : is_identity standing.uuid found ≡ false
  pub fault : f ≡ fault.WrongMaster

-- properties are to be copied past what was merged in the mirror that was looked at (58); such a number is the order's highest
pub record IsBeyond (IsHigh : ℕ → Type 0) (es : List Spoken) (f : SyncFault) : Type 0 where
  pub standing : Standing
  pub looked : IsLooked standing es
  pub high : ℕ
  pub highest : IsHigh high
  pub unmerged : reaches standing.merged high ≡ false
  pub fault : f ≡ fault.NotYetCopied high

-- by what the job has heard a revision is noted as being copied, and none may follow the head (57)
pub record IsStuck (job : Job) (f : SyncFault) : Type 0 where
  pub noted : is_absent job.copying ≡ false
  pub full : nat_lt job.head REVISION ≡ false
  pub fault : f ≡ fault.Inconsistent (numbers.told_of job.merged None) (numbers.told_of job.copying None) job.head

-- what a job refuses by itself for an answer, by what was said up to it: a look at a mirror that isn't initialised (51) or in no
-- shape (57), the identity that it has asked for (56, 58), and the newest revision where none may be fetched (57)
abbrev pub IsShown : (ℕ → Type 0) → Job → List Spoken → Outcome → SyncFault → Type 0
IsShown IsHigh job es (told.Seen s) f = ((is_none s.url ≡ true) × (f ≡ fault.NotInitialised)) ⊎ ((shape_in s.merged s.copying s.head ≡ None) × (f ≡ inconsistent_as s))
IsShown IsHigh job es (told.Identity found) f = IsForeign es found f ⊎ IsBeyond IsHigh es f
IsShown IsHigh job es (told.Latest n) f = IsStuck (hears_all job es) f
IsShown IsHigh job es _ f = ⊥

-- where a refusal comes from: a port answered it (a master's as 60, with what it told inside), or it is want of memory, or an answer
-- that was heard shows it
pub data ComesFrom (IsHigh : ℕ → Type 0) (job : Job) (es : List Spoken) (f : SyncFault) : Type 0 where
  Mirrors : (d : Deed) → IsSaid (Says d (refused_as f)) es → ComesFrom IsHigh job es f
  Trees : (n : ℕ) → IsSaid (NoTree n (refused_as f)) es → ComesFrom IsHigh job es f
  Masters : (d : Deed) → (text : _) → f ≡ fault.MasterFailed text → IsSaid (Says d (told.Failed (string_bytes text))) es → ComesFrom IsHigh job es f
  Memory : f ≡ fault.OutOfMemory → ComesFrom IsHigh job es f
  Tables : (d : Deed) → (o : Outcome) → (heard more : List Spoken) → es ≡ heard ++ more → IsSaid (Says d o) heard → IsShown IsHigh job heard o f → ComesFrom IsHigh job es f

-- a job whose order has no highest number
abbrev pub no_number : ℕ → Type 0
no_number n = ⊥

-- the last that is said is that the lock is released
pub record IsReleased (es : List Spoken) : Type 0 where
  pub before : List Spoken
  pub last : es ≡ before ++ Says (Calls ReleaseLock) told.Done ∷ []

-- a sync job's number is the one that is being copied
abbrev pub IsCopying : Job → ℕ → Type 0
IsCopying job n = job.copying ≡ Spelt n

abbrev pub IsZero : Job → ℕ → Type 0
IsZero job n = n ≡ 0

abbrev pub IsWithin : ℕ → ℕ → Job → ℕ → Type 0
IsWithin low high job n = (low ≤ n) × (n ≤ high)

-- what a run of a job says, whatever its ports answer. At its end the job has no lock by what it has heard: none was answered, or
-- its release was asked for
pub record Runs {B : Type 0} (IsNumber : Job → ℕ → Type 0) (order : Order) (old new : List Spoken) (heard_old heard_new : B → List Told → Type 0) (IsEnd : List Spoken → Type 0) : Type 0 where
  pub more : List Spoken
  pub adds : new ≡ old ++ more
  pub right : AreRight IsNumber (begun order) more
  pub reported : ReportedFrom [] more
  pub tells : (first : B) (told : List Told) → heard_old first told → heard_new first (told ++ told_in more)
  pub let_go : (hears_all (begun order) more).stage ≢ Locked
  pub end : IsEnd more

-- a sync run ends well only where all that the master told in it is merged, nothing is being copied, and the lock is released
pub record Synced (order : Order) (es : List Spoken) : Type 0 where
  pub all : IsSynced (hears_all (begun order) es)
  pub released : IsReleased es

abbrev pub EndsSync : Order → Result (Unit {0}) SyncFault → List Spoken → Type 0
EndsSync order (Ok u) es = Synced order es
EndsSync order (Err f) es = ComesFrom no_number (begun order) es f

abbrev pub IsSyncRun : {B : Type 0} → List ℕ → Bool → List Spoken → List Spoken → (B → List Told → Type 0) → (B → List Told → Type 0) → Result (Unit {0}) SyncFault → Type 0
IsSyncRun token steal old new heard_old heard_new result = Runs IsCopying (Sync token steal) old new heard_old heard_new (EndsSync (Sync token steal) result)

-- an init run ends well only where its Init, of its order's URL, was accepted
pub record Begun (url : List ℕ) (es : List Spoken) : Type 0 where
  pub uuid : List ℕ
  pub props : PropMap
  pub accepted : IsSaid (Says (Calls (Init url uuid props)) told.Done) es

abbrev pub EndsInit : List ℕ → Result (Unit {0}) SyncFault → List Spoken → Type 0
EndsInit url (Ok u) es = Begun url es
EndsInit url (Err f) es = ComesFrom no_number (begun (Initialise url)) es f

abbrev pub IsInitRun : {B : Type 0} → List ℕ → List Spoken → List Spoken → (B → List Told → Type 0) → (B → List Told → Type 0) → Result (Unit {0}) SyncFault → Type 0
IsInitRun url old new heard_old heard_new result = Runs IsZero (Initialise url) old new heard_old heard_new (EndsInit url result)

-- the numbers whose properties were put, in order
abbrev pub put_by : Deed → Outcome → List ℕ
put_by (Calls (PutProps n props)) told.Done = n ∷ []
put_by _ _ = []

abbrev pub puts_in : List Spoken → List ℕ
puts_in [] = []
puts_in (Says d o ∷ es) = put_by d o ++ puts_in es
puts_in (NoTree n o ∷ es) = puts_in es
puts_in (Tells t ∷ es) = puts_in es

-- a copying run ends well only where it put each of its numbers once, in order, and the lock is released
pub record Copied (low high : ℕ) (es : List Spoken) : Type 0 where
  pub all : puts_in es ≡ range_with_len low (high + 1 - low)
  pub released : IsReleased es

abbrev pub EndsCopy : List ℕ → ℕ → ℕ → Result (Unit {0}) SyncFault → List Spoken → Type 0
EndsCopy token low high (Ok u) es = Copied low high es
EndsCopy token low high (Err f) es = ComesFrom (λ n. n ≡ high) (begun (CopyProps token)) es f

abbrev pub IsCopyRun : {B : Type 0} → List ℕ → ℕ → ℕ → List Spoken → List Spoken → (B → List Told → Type 0) → (B → List Told → Type 0) → Result (Unit {0}) SyncFault → Type 0
IsCopyRun token low high old new heard_old heard_new result = Runs (IsWithin low high) (CopyProps token) old new heard_old heard_new (EndsCopy token low high result)
