-- What a seat carries through a call, by who has the hand.
use Rattle.std.proofs.Common.{◌≡◌, ℕ, Bool, true, Option, Some, None, Result, Ok, Err, refl, sym, subst, ◌∙◌}
use Rattle.std.specs.Prelude.{IsSome, MatchOption, OnOk}
use Rattle.sync_core.specs.Holding.{TakesLock}
use Rattle.sync_core.specs.Jobs.{Job}
use Rattle.sync_core.specs.Mirror.{Call}
use Rattle.sync_core.specs.declared.fault.SyncFault.{SyncFault}
use Rattle.sync_core.specs.declared.reply.Reply.{Reply as Given}
use Rattle.sync_job.specs.Mirrors.{MirrorNow}
use Rattle.mirror_share.specs.Holding.{job_after}
use Rattle.mirror_share.specs.Steps.{StepsShown}
use Rattle.mirror_share.specs.Books.{IsCounted, IsLocked}
use Rattle.mirror_share.specs.Carried.{HasHand, IsCarried}
use Rattle.mirror_share.specs.Counts.{Counts, KnowsCounts}
use Rattle.mirror_share.proofs.Keeping.{IsSized, TookLock, tells, served, goes_on, holds_on, took_lock}

is_there : (hand : Option Counts) (P : Counts → Type 0) → MatchOption hand ⊥ P → IsSome hand
is_there None P h = absurd h
is_there (Some j) P h = refl

lock_hand : (seat : ℕ) (call : Call) (new : MirrorNow) (result : Result Given SyncFault) (P : Counts → Type 0) (hand : Option Counts) → TookLock seat call new result → (new.holder ≡ Some seat → MatchOption hand ⊥ P) → TakesLock call → OnOk result (IsSome hand)
lock_hand seat call new (Ok r) P hand took has t = is_there hand P (has (took t))
lock_hand seat call new (Err f) P hand took has t = tt

knows_then : (job : Job) (call : Call) (result : Result Given SyncFault) (hand : Option Counts) (k k2 : Counts) (after : Bool) → MatchOption hand ⊥ (λ j. (j ≡ k2) × (after ≡ true → j ≡ k))
    → ((after ≡ true → k2 ≡ k) → KnowsCounts (job_after job call result) k2) → MatchOption hand ⊥ (λ j. KnowsCounts (job_after job call result) j)
knows_then job call result None k k2 after has goes = absurd has
knows_then job call result (Some j) k k2 after has goes = subst (KnowsCounts (job_after job call result)) (sym has.0) (goes (λ a. sym has.0 ∙ has.1 a))

-- the seat had the hand
pub own_carried : (before after : Bool) (m new : MirrorNow) (seat : ℕ) (call : Call) (result : Result Given SyncFault) (k k2 : Counts) (held held2 : ℕ) (hand : Option Counts)
    → IsSized m.repository.revisions → IsLocked before m.repository.revisions m.holder → IsCounted before m.repository.revisions m.holder k held → IsCounted after new.repository.revisions new.holder k2 held2
    → m.holder ≡ Some seat → HasHand seat new.holder after k k2 hand → StepsShown before m seat call result after new → IsCarried (Some k) hand call result
own_carried before after m new seat call result k k2 held held2 hand s l c c2 own has step = record {
  tells = tells before after m new seat call result k held c step;
  served = λ job knows lawful. served before after m new seat job call result k held s l c own knows lawful step;
  stays = λ job knows lawful goes. knows_then job call result hand k k2 after (has (holds_on before after m new seat call result goes own step)) (λ same. goes_on before after m new seat job call result k k2 held held2 s l c c2 same own knows lawful goes step);
  takes = lock_hand seat call new result (λ j. (j ≡ k2) × (after ≡ true → j ≡ k)) hand (took_lock before after m new seat call result step) has;
}
