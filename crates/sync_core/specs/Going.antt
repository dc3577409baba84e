-- What a job does next, asks, and becomes, with no call at hand.
use Rattle.std.specs.Prelude.{◌≡◌, ℕ, ◌<◌, length, List, Some, None}
use Rattle.node_base.specs.Props.{PropMap}
use Rattle.dump_load.specs.declared.change.Change.{Change}
use Rattle.sync_core.specs.declared.answer.Answer.{Answer}
use Rattle.sync_core.specs.declared.answer.Answer.TheVariants as answer
use Rattle.sync_core.specs.declared.state.JobState.{JobState}
use Rattle.sync_core.specs.declared.state.JobState.TheVariants as state
use Rattle.sync_core.specs.declared.ending.Ending.{Ending}
use Rattle.sync_core.specs.declared.ending.Ending.TheVariants.{Fine}
use Rattle.sync_core.specs.Mirror.{Mirror, Call, Init, ReleaseLock, Commit, refusal}
use Rattle.sync_core.specs.Jobs.{Job}
use Rattle.sync_core.specs.Deeds.{Calls, Ends, heard, IsLawfulDeed}
use Rattle.sync_core.specs.States.{deed_in, after, ending_of, Follows, IsAskedFor}

-- a call that it makes is one that it may make then
abbrev pub DoesWhatItMay : Type 0
DoesWhatItMay = (job : Job) (s : JobState) → Follows job s → IsLawfulDeed job (deed_in s)

-- it asks for a revision or properties only by a number that is its turn, and for the newest revision under its lock alone
abbrev pub AsksWhatItMay : Type 0
AsksWhatItMay = (job : Job) (s : JobState) → Follows job s → IsAskedFor s job (deed_in s)

-- what it has heard with an answer leads to what it becomes
abbrev pub FollowsOn : Type 0
FollowsOn = (job : Job) (moment : ℕ) (s : JobState) (a : Answer) → Follows job s → Follows (heard job moment (deed_in s) a) (after s a)

-- a job that has ended does nothing more and stays as it is
abbrev pub StaysEnded : Type 0
StaysEnded = (s : JobState) (a : Answer) (e : Ending) → ending_of s ≡ Some e → (deed_in s ≡ Ends) × (after s a ≡ s)

-- and only such a job does nothing
abbrev pub OnlyEndedEnds : Type 0
OnlyEndedEnds = (s : JobState) → deed_in s ≡ Ends → (e : Ending) × (ending_of s ≡ Some e)

-- the last call of a job: of one that takes the lock its release
abbrev pub IsLastCall : JobState → Call → Type 0
IsLastCall (state.Init s) call = (url uuid : List ℕ) × ((props : PropMap) × (call ≡ Init url uuid props))
IsLastCall (state.Sync s) call = call ≡ ReleaseLock
IsLastCall (state.Copy s) call = call ≡ ReleaseLock

-- a job ends well only as its last call is done
abbrev pub EndsWellDone : Type 0
EndsWellDone =
    (s : JobState) (a : Answer) → ending_of s ≡ None → ending_of (after s a) ≡ Some Fine
    → (a ≡ answer.Done) × ((call : Call) × (deed_in s ≡ Calls call) × IsLastCall s call)

-- a commit that is accepted has the number after the head's
abbrev pub CommitsInOrder : Type 0
CommitsInOrder = (m : Mirror) (seat n : ℕ) (set : List Change) (props : PropMap) → 0 < length m.revisions → refusal m seat (Commit n set props) ≡ None → n ≡ length m.revisions
