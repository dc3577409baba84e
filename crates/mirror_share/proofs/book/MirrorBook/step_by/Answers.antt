use Rattle.std.proofs.Common.{◌≡◌, ◌<◌, ◌≤◌, ℕ, length, sym, subst}
use Rattle.repo_core.specs.Repository.{Repository}
use Rattle.store_share.specs.Seats.{known_by, seen_by}
use Rattle.sync_core.specs.Calls.{call_of}
use Rattle.mirror_share.specs.Book.{is_stuck_in, master_of, now_of}
use Rattle.mirror_share.specs.Seats.{place_of}
use Rattle.store_share.specs.Book.{head_of}
use Rattle.mirror_share.proofs.Seeing.{commit_seen}
use Rattle.mirror_share.proofs.book.MirrorBook.step_by.Goals as goal

pub returns-in-Ok-clause-commit : goal.returns-in-Ok-clause-commit
returns-in-Ok-clause-commit g c =
    commit_seen (is_stuck_in c.args.self.now.book) (is_stuck_in c.step.new.self.book) (now_of c.args.self.now.book) (now_of c.step.new.self.book) (place_of c.args.seat.now) (call_of c.args.call.now) c.in-Ok.reply
    (head_of (master_of c.step.new.self.book)) (seen_by c.latest-newest.new.reader) (known_by c.latest-newest.new.reader)
    (subst (λ (r : Repository). 0 < length r.revisions) c.repo.ensures.value c.head-head.ensures.begun)
    (subst (λ (r : Repository). length r.sets ≡ length r.revisions) c.repo.ensures.value c.head-head.ensures.sets)
    c.in-Ok.ensures.stepped.step c.repo-in-Ok.ensures.newest (subst (λ (n : ℕ). head_of (master_of c.step.new.self.book) ≤ n) (sym c.latest-newest.ensures.seen) c.latest-newest.ensures.most.1) c.latest-newest.ensures.known
