-- A run of a job at a seat: what was said in it, and what each of its calls was at the seat.
use Rattle.std.specs.Prelude.{◌≡◌, ◌≢◌, ℕ, Bool, List, [], ◌∷◌, ◌++◌, map, Option, None, Result, IfErr, IfOk, IsSome}
use Rattle.sync_core.specs.Copies.{outcome_of}
use Rattle.sync_core.specs.Deeds.{Calls}
use Rattle.sync_core.specs.Holding.{IsQuestion}
use Rattle.sync_core.specs.Jobs.{Job, Sync, CopyProps, Locked, begun}
use Rattle.sync_core.specs.Mirror.{Call}
use Rattle.sync_core.specs.declared.answer.Answer.{Answer}
use Rattle.sync_core.specs.declared.fault.SyncFault.{SyncFault}
use Rattle.sync_core.specs.declared.fault.SyncFault.TheVariants as fault
use Rattle.sync_core.specs.declared.reply.Reply.{Reply as Given}
use Rattle.sync_job.specs.Fronts.{IsHeard}
use Rattle.sync_job.specs.Mirrors.{IsFit}
use Rattle.sync_job.specs.Runs.{AreRight, IsCopying, IsWithin, hears}
use Rattle.sync_job.specs.Said.{Spoken, Says, NoTree, Tells}
use Rattle.mirror_share.specs.Holding.{IsServed}
use Rattle.mirror_share.specs.Carried.{IsCarried}
use Rattle.mirror_share.specs.Refused.{IsRefusalOf}
use Rattle.mirror_share.specs.Counts.{Counts}

-- a call at the seat, with its answer, how the job heard that, and what the seat's hand counts behind it; or something else
pub data Happening : Type 0 where
  Called : (call : Call) → (result : Result Given SyncFault) → (told : Answer) → (hand : Option Counts) → Happening
  Spoke : (spoken : Spoken) → Happening

-- as it stands in the list of a run
abbrev pub said_as : Happening → Spoken
said_as (Called call result told hand) = Says (Calls call) (outcome_of told)
said_as (Spoke spoken) = spoken

-- it is no call of the mirror
abbrev pub IsNoCall : Spoken → Type 0
IsNoCall (Says d o) = IsQuestion d
IsNoCall (NoTree n o) = Unit {0}
IsNoCall (Tells t) = Unit {0}

-- it isn't refused for the lock (59) or the turn (61)
abbrev pub IsAllowed : Result Given SyncFault → Type 0
IsAllowed result = IfErr result (λ f. (f ≢ fault.NotHolder) × (f ≢ fault.OutOfTurn))

-- each call was one at the seat, from what its hand counted before it
abbrev pub AreCalls : Option Counts → List Happening → Type 0
AreCalls hand [] = Unit {0}
AreCalls hand (Called call result told next ∷ es) = IfOk result (IsFit call) × IfErr result (IsRefusalOf call) × IsHeard result told × IsCarried hand next call result × AreCalls next es
AreCalls hand (Spoke spoken ∷ es) = IsNoCall spoken × AreCalls hand es

-- no call of the job is refused for the lock (59) or the turn (61). From the answer to its lock call to its release a look tells what its
-- last look and its own calls since left, and behind each of its calls the seat has the hand, so that no other seat's lock call is done
abbrev pub AreServed : Job → List Happening → Type 0
AreServed job [] = Unit {0}
AreServed job (Called call result told next ∷ es) =
    IsAllowed result × (job.stage ≡ Locked → IsServed job result) × ((hears job (Says (Calls call) (outcome_of told))).stage ≡ Locked → IsSome next) × AreServed (hears job (Says (Calls call) (outcome_of told))) es
AreServed job (Spoke spoken ∷ es) = AreServed (hears job spoken) es

-- so it is in a run that synchronises, at a seat that begins without the hand
abbrev pub SyncIsServed : Type 0
SyncIsServed = (token : List ℕ) (steal : Bool) (es : List Happening) → AreRight IsCopying (begun (Sync token steal)) (map said_as es) → AreCalls None es → AreServed (begun (Sync token steal)) es

-- and in one that copies properties again
abbrev pub CopyIsServed : Type 0
CopyIsServed = (token : List ℕ) (low high : ℕ) (es : List Happening) → AreRight (IsWithin low high) (begun (CopyProps token)) (map said_as es) → AreCalls None es → AreServed (begun (CopyProps token)) es

-- what was said in a run at a seat that began without the hand: each of its calls was one at the seat, in order, and it is served
pub record IsServedIn (job : Job) (old new : List Spoken) : Type 0 where
  pub happened : List Happening
  pub adds : new ≡ old ++ map said_as happened
  pub calls : AreCalls None happened
  pub served : AreServed job happened
