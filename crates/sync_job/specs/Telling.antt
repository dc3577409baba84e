-- That what was said in a run tells what its mirror's port was asked.
use Rattle.std.specs.Prelude.{◌≡◌, ◌⊎◌, List, [], ◌∷◌, ◌++◌}
use Rattle.std.specs.List.{AllByRecursion, AllZip}
use Rattle.node_base.specs.declared.refusal.Refusal.TheVariants as refusal
use Rattle.sync_core.specs.declared.answer.Answer.{Answer}
use Rattle.sync_core.specs.declared.fault.SyncFault.{SyncFault}
use Rattle.sync_core.specs.declared.fault.SyncFault.TheVariants as fault
use Rattle.sync_core.specs.Copies.{Outcome, Refused, outcome_of}
use Rattle.sync_core.specs.Deeds.{Deed, Calls}
use Rattle.sync_core.specs.Mirror.{Call}
use Rattle.sync_job.specs.Asked.{Asked}
use Rattle.sync_job.specs.Fronts.{IsHeard}
use Rattle.sync_job.specs.Said.{Spoken, Says, NoTree, Tells}

-- a call of the mirror that was said, with its answer
pub record SaidCall : Type 0 where
  pub call : Call
  pub outcome : Outcome

-- the calls of the mirror that were said, in order
abbrev pub calls_by : Deed → Outcome → List SaidCall
calls_by (Calls call) o = record { call = call; outcome = o } ∷ []
calls_by _ o = []

abbrev pub calls_in : List Spoken → List SaidCall
calls_in [] = []
calls_in (Says d o ∷ es) = calls_by d o ++ calls_in es
calls_in (NoTree n o ∷ es) = calls_in es
calls_in (Tells t ∷ es) = calls_in es

-- and all other answers
abbrev pub others_by : Deed → Outcome → List Outcome
others_by (Calls call) o = []
others_by _ o = o ∷ []

abbrev pub others_in : List Spoken → List Outcome
others_in [] = []
others_in (Says d o ∷ es) = others_by d o ++ others_in es
others_in (NoTree n o ∷ es) = o ∷ others_in es
others_in (Tells t ∷ es) = others_in es

-- a call is said as it was asked, and its answer as the job heard it
pub record IsSaidAs (a : Asked) (said : SaidCall) : Type 0 where
  pub call : said.call ≡ a.call
  pub answer : Answer
  pub heard : IsHeard a.result answer
  pub outcome : said.outcome ≡ outcome_of answer

-- why a tree isn't given: nothing is there (21), or memory ran out (70)
abbrev pub IsTreeFault : SyncFault → Type 0
IsTreeFault f = (f ≡ fault.Other refusal.NoSuchRevision) ⊎ (f ≡ fault.OutOfMemory)

-- the answer to something else than a call of the mirror is no refusal but 21 and 70
abbrev pub IsOther : Outcome → Type 0
IsOther (Refused number text) = (number ≡ 21) ⊎ (number ≡ 70)
IsOther o = Unit {0}

-- since the port was as the first, and what was said as `base`, what was said more tells each call that the port was asked, once and
-- in order, and no other
pub record TellsAsked {N : Type 0} (Asks : N → N → List Asked → Type 0) (first : N) (base : List Spoken) (now : N) (all : List Spoken) : Type 0 where
  pub made : List Asked
  pub more : List Spoken
  pub adds : all ≡ base ++ more
  pub asked : Asks now first made
  pub said : AllZip IsSaidAs made (calls_in more)
  pub others : AllByRecursion IsOther (others_in more)

-- since whenever that was so, it is so still
abbrev pub KeepsTelling : {N : Type 0} → (N → N → List Asked → Type 0) → N → N → List Spoken → List Spoken → Type 0
KeepsTelling {N} Asks before now old new = (first : N) (base : List Spoken) → TellsAsked Asks first base before old → TellsAsked Asks first base now new
