-- What a master's port was asked, and that what was said in a run tells it.
use Rattle.std.specs.Prelude.{◌≡◌, ◌⊎◌, ℕ, List, [], ◌∷◌, ◌++◌, Result, Ok, Err}
use Rattle.std.specs.List.{AllZip}
use Rattle.node_base.specs.Props.{PropMap}
use Rattle.node_base.specs.Tree.{PathMap}
use Rattle.sync_core.specs.declared.fault.SyncFault.TheVariants as fault
use Rattle.sync_core.specs.declared.answer.Answer.{Answer}
use Rattle.sync_core.specs.declared.answer.Answer.TheVariants as answer
use Rattle.sync_core.specs.Copies.{Outcome, outcome_of}
use Rattle.sync_core.specs.Copies as told
use Rattle.sync_core.specs.Deeds.{Deed, Calls, AsksIdentity, AsksLatest, Fetches, FetchesProps}
use Rattle.sync_job.specs.declared.master.Fetched.{Fetched}
use Rattle.sync_job.specs.declared.master.MasterFault.{MasterFault}
use Rattle.sync_job.specs.Kept.{refused_as}
use Rattle.sync_job.specs.Masters.{fault_text}
use Rattle.sync_job.specs.Said.{Spoken, Says, NoTree, Tells}

-- a question to a master, and how its port answered it
pub data Exchange : Type 0 where
  Identity : (result : Result (List ℕ) MasterFault) → Exchange
  Latest : (result : Result ℕ MasterFault) → Exchange
  Fetch : (n : ℕ) → (trees : List PathMap) → (result : Result Fetched MasterFault) → Exchange
  FetchProps : (n : ℕ) → (result : Result PropMap MasterFault) → Exchange

-- these lead from one state of a port to another, each by a step of its own
abbrev pub LeadsBy : {M A : Type 0} → (M → A → M → Type 0) → M → List A → M → Type 0
LeadsBy Step m [] now = now ≡ m
LeadsBy {M} Step m (x ∷ xs) now = (mid : M) × Step m x mid × LeadsBy Step mid xs now

-- the question as a job asks it
abbrev pub deed_for : Exchange → Deed
deed_for (Identity r) = AsksIdentity
deed_for (Latest r) = AsksLatest
deed_for (Fetch n trees r) = Fetches n
deed_for (FetchProps n r) = FetchesProps n

-- the answer as it is told: a fault by its own text
abbrev pub outcome_for : Exchange → Outcome
outcome_for (Identity (Ok u)) = told.Identity u
outcome_for (Identity (Err f)) = told.Failed (fault_text f)
outcome_for (Latest (Ok n)) = told.Latest n
outcome_for (Latest (Err f)) = told.Failed (fault_text f)
outcome_for (Fetch n trees (Ok r)) = told.Revision r.set r.props
outcome_for (Fetch n trees (Err f)) = told.Failed (fault_text f)
outcome_for (FetchProps n (Ok p)) = told.Map p
outcome_for (FetchProps n (Err f)) = told.Failed (fault_text f)

-- a job hears of an answer what it tells, or want of memory
abbrev pub IsToldOf : Exchange → Answer → Type 0
IsToldOf x a = (outcome_of a ≡ outcome_for x) ⊎ (a ≡ answer.Refused fault.OutOfMemory)

-- a question to the master that was said, with its answer
pub record SaidQuestion : Type 0 where
  pub deed : Deed
  pub outcome : Outcome

-- those that were said, in order
abbrev pub questions_by : Deed → Outcome → List SaidQuestion
questions_by (Calls call) o = []
questions_by d o = record { deed = d; outcome = o } ∷ []

abbrev pub questions_in : List Spoken → List SaidQuestion
questions_in [] = []
questions_in (Says d o ∷ es) = questions_by d o ++ questions_in es
questions_in (NoTree n o ∷ es) = questions_in es
questions_in (Tells t ∷ es) = questions_in es

-- a question is said as it was asked, with its answer, or with want of memory where that couldn't be kept
pub record IsSaidOf (x : Exchange) (said : SaidQuestion) : Type 0 where
  pub deed : said.deed ≡ deed_for x
  pub outcome : (said.outcome ≡ outcome_for x) ⊎ (said.outcome ≡ refused_as fault.OutOfMemory)

-- since the port was as the first, and what was said as `base`, what was said more tells each question that the port was asked, once
-- and in order, and no other
pub record TellsAnswered {M : Type 0} (Answered : M → M → List Exchange → Type 0) (first : M) (base : List Spoken) (now : M) (all : List Spoken) : Type 0 where
  pub made : List Exchange
  pub more : List Spoken
  pub adds : all ≡ base ++ more
  pub answered : Answered now first made
  pub said : AllZip IsSaidOf made (questions_in more)

-- since whenever that was so, it is so still
abbrev pub KeepsAnswers : {M : Type 0} → (M → M → List Exchange → Type 0) → M → M → List Spoken → List Spoken → Type 0
KeepsAnswers {M} Answered before now old new = (first : M) (base : List Spoken) → TellsAnswered Answered first base before old → TellsAnswered Answered first base now new
