use Rattle.std.proofs.Common.{◌≡◌, ◌<◌, ◌≤◌, ◌+◌, length, Option, Some, sym, ap, subst, ◌∙◌}
use Rattle.std.specs.Option.{option_map, option_map_or}
use Rattle.repo_core.specs.Repository.{Repository}
use Rattle.sync_core.specs.Calls.{call_of}
use Rattle.mirror_share.specs.Book.{holder_of, is_stuck_in, now_of}
use Rattle.mirror_share.specs.Carried.{HasHand, IsCarried}
use Rattle.mirror_share.specs.Counts.{Counts}
use Rattle.mirror_share.specs.Seats.{counts_in}
use Rattle.mirror_share.specs.Words.{counted_in}
use Rattle.mirror_share.proofs.Carrying.{own_carried}
use Rattle.mirror_share.proofs.Counting.{same_counts}
use Rattle.mirror_share.proofs.Keeping.{holder_by, locked_after}
use Rattle.mirror_share.proofs.hands.step_of.Goals as goal

pub returns-in-Some-clause-kept : goal.returns-in-Some-clause-kept
returns-in-Some-clause-kept g c = record {
  counted = c.with_hand.ensures.counted;
  locked =
      locked_after (is_stuck_in c.args.book.now) (is_stuck_in c.with_hand.new.book) (now_of c.args.book.now) (now_of c.with_hand.new.book) _ (call_of c.args.call.now) c.with_hand.result
      (subst (λ (r : Repository). 0 < length r.revisions) c.repo.ensures.value c.head-head.ensures.begun, subst (λ (r : Repository). length r.revisions ≤ 65536) c.repo.ensures.value c.head-head.ensures.few)
      c.requires.kept.locked c.with_hand.ensures.stepped.step;
  spared = c.with_hand.ensures.spared;
}

pub returns-in-Some-clause-carried : goal.returns-in-Some-clause-carried
returns-in-Some-clause-carried g c =
    let place = c.new-job.result in
    let counted = counted_in c.args.ledgers.now in
    let then = counted_in c.with_hand.new.ledgers in
    let was = c.in-Some.ensures.value in
    let audited : counts_in c.audit.new.hand ≡ counted =
    same_counts _ _ _ _ _ _ (c.audit.ensures.merged.1 ∙ c.audit.ensures.merged.0) (c.audit.ensures.copying.1 ∙ c.audit.ensures.copying.0) (c.audit.ensures.head.1 ∙ c.audit.ensures.head.0) in
    let own : counted ≡ counts_in c.in-Some.own = same_counts _ _ _ _ _ _ (sym c.audit.ensures.merged.0) (sym c.audit.ensures.copying.0) (sym c.audit.ensures.head.0) in
    let held : c.in-Some.own.holder.amount ≡ place + 1 =
    ap (λ o. option_map_or (λ h. h.holder.amount) o (c.args.seat.now.place + 1)) was ∙ c.args.seat.now.holds ∙ ap (λ k. k + 1) (sym c.new-job.ensures) in
    subst (λ (h : Option Counts). IsCarried h (option_map (λ x. counts_in x) c.with_hand.new.hand) (call_of c.args.call.now) c.with_hand.result) (ap Some own ∙ ap (option_map (λ x. counts_in x)) was)
    (own_carried (is_stuck_in c.args.book.now) (is_stuck_in c.with_hand.new.book) (now_of c.args.book.now) (now_of c.with_hand.new.book) place (call_of c.args.call.now) c.with_hand.result counted then
    c.args.ledgers.now.holder.total c.with_hand.new.ledgers.holder.total (option_map (λ x. counts_in x) c.with_hand.new.hand)
    (subst (λ (r : Repository). 0 < length r.revisions) c.repo.ensures.value c.head-head.ensures.begun, subst (λ (r : Repository). length r.revisions ≤ 65536) c.repo.ensures.value c.head-head.ensures.few)
    c.requires.kept.locked c.requires.kept.counted c.with_hand.ensures.counted
    (holder_by (holder_of c.args.book.now) place c.args.ledgers.now.holder.total c.requires.kept.counted.holder (sym c.audit.ensures.holder.0 ∙ held))
    (subst (λ (k : Counts). HasHand place (holder_of c.with_hand.new.book) (is_stuck_in c.with_hand.new.book) k then (option_map (λ x. counts_in x) c.with_hand.new.hand)) audited c.with_hand.ensures.hand)
    c.with_hand.ensures.stepped.step)

pub returns-in-Some-take-clause-kept : goal.returns-in-Some-take-clause-kept
returns-in-Some-take-clause-kept g c = record {
  counted = c.with_hand-in-Some-take.ensures.counted;
  locked =
      locked_after (is_stuck_in c.args.book.now) (is_stuck_in c.with_hand-in-Some-take.new.book) (now_of c.args.book.now) (now_of c.with_hand-in-Some-take.new.book) _ (call_of c.args.call.now) c.with_hand-in-Some-take.result
      (subst (λ (r : Repository). 0 < length r.revisions) c.repo.ensures.value c.head-head.ensures.begun, subst (λ (r : Repository). length r.revisions ≤ 65536) c.repo.ensures.value c.head-head.ensures.few)
      c.requires.kept.locked c.with_hand-in-Some-take.ensures.stepped.step;
  spared = c.with_hand-in-Some-take.ensures.spared;
}
