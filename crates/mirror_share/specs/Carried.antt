-- What a seat carries through a call.
use Rattle.std.specs.Prelude.{◌≡◌, ◌≢◌, ℕ, Bool, true, Option, Some, Result, IfOk, IfSome, IsSome, MatchOption, OnOk}
use Rattle.sync_core.specs.Holding.{TakesLock}
use Rattle.sync_core.specs.Jobs.{Job, Lawful}
use Rattle.sync_core.specs.Mirror.{Call, ReleaseLock}
use Rattle.sync_core.specs.declared.fault.SyncFault.{SyncFault}
use Rattle.sync_core.specs.declared.reply.Reply.{Reply as Given}
use Rattle.mirror_share.specs.Holding.{IsServed, job_after}
use Rattle.mirror_share.specs.Counts.{Counts, KnowsCounts, TellsCounts}

-- what the hand of a seat counted before a call and counts behind it. While it holds the lock a look tells what is counted; a lawful
-- call of a job that knows it isn't refused for the lock (59) or the turn (61), and unless it was the release the seat holds on, and
-- the job knows what is counted then. A seat that has taken the lock holds it
pub record IsCarried (old new : Option Counts) (call : Call) (result : Result Given SyncFault) : Type 0 where
  pub tells : IfSome old (λ k. IfOk result (TellsCounts k))
  pub served : (job : Job) → IfSome old (λ k. KnowsCounts job k → Lawful job call → IsServed job result)
  pub stays : (job : Job) → IfSome old (λ k. KnowsCounts job k → Lawful job call → call ≢ ReleaseLock → MatchOption new ⊥ (λ j. KnowsCounts (job_after job call result) j))
  pub takes : TakesLock call → OnOk result (IsSome new)

-- where the seat holds the lock behind the call it has the hand, which counts this; as before where a cell refused its box
abbrev pub HasHand : ℕ → Option ℕ → Bool → Counts → Counts → Option Counts → Type 0
HasHand seat h after k k2 hand = h ≡ Some seat → MatchOption hand ⊥ (λ j. (j ≡ k2) × (after ≡ true → j ≡ k))
