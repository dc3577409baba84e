use Rattle.std.proofs.Common.{◌<◌, ◌≤◌, length, sym, ap, subst, ◌∙◌}
use Rattle.repo_core.specs.Repository.{Repository}
use Rattle.sync_core.specs.Calls.{call_of}
use Rattle.sync_core.specs.Mirror.{holds}
use Rattle.mirror_share.specs.Book.{is_stuck_in, now_of}
use Rattle.mirror_share.proofs.Keeping.{beside_held}
use Rattle.mirror_share.proofs.hands.step_beside.Goals as goal

pub returns-clause-same : goal.returns-clause-same
returns-clause-same g c =
    beside_held (is_stuck_in c.args.book.now) (is_stuck_in c.step.new.self) (now_of c.args.book.now) (now_of c.step.new.self) c.args.seat (call_of c.args.call.now) c.step.result
    (subst (λ (r : Repository). 0 < length r.revisions) c.repo.ensures.value c.head-head.ensures.begun, subst (λ (r : Repository). length r.revisions ≤ 65536) c.repo.ensures.value c.head-head.ensures.few)
    c.requires.locked c.requires.held
    (ap (λ h. holds h c.args.seat) (sym c.holder.ensures) ∙ sym c.is_held_by.ensures ∙ c.if-is_held_by.false) c.step.ensures.stepped.step
