use Rattle.std.proofs.Common.{◌<◌, length, refl, sym, subst, ◌∙◌}
use Rattle.repo_core.specs.Repository.{Repository}
use Rattle.repo_store.specs.Words.{disk_of}
use Rattle.store_share.specs.Book.{store_of}
use Rattle.sync_core.specs.Calls.{call_of}
use Rattle.sync_core.specs.Mirror.{mirror_with}
use Rattle.mirror_share.specs.Book.{holder_of, is_stuck_in, now_of}
use Rattle.mirror_share.proofs.Exits.{stuck_stepped, told_stepped, unplanned_stepped}
use Rattle.mirror_share.proofs.Refusing.{of_answer, of_step, writes}
use Rattle.mirror_share.proofs.calls.CallBook.step.Goals as goal

pub returns-then-is_stuck-clause-stepped : goal.returns-then-is_stuck-clause-stepped
returns-then-is_stuck-clause-stepped g c =
    stuck_stepped c.args.self.now c.args.seat (call_of c.args.call.now) (λ image honest left. g.met.D.Disk.only_now (disk_of (store_of c.args.self.now.book)) image honest left) c.repo.ensures.kept
    (sym c.is_stuck.ensures ∙ c.if-is_stuck.true)

pub returns-in-Ok-Tell-clause-stepped : goal.returns-in-Ok-Tell-clause-stepped
returns-in-Ok-Tell-clause-stepped g c =
    told_stepped c.args.self.now c.args.seat c.args.seat c.repo-2.result.now (call_of c.args.call.now) c.in-Ok-Tell.field-0 c.in-Ok-Tell.standing (λ image honest left. g.met.D.Disk.only_now (disk_of (store_of c.args.self.now.book)) image honest left)
    c.repo.ensures.kept c.repo.ensures.shown c.repo.ensures.newest (sym c.is_stuck.ensures ∙ c.if-is_stuck.false) c.repo-2.ensures.value refl c.in-Ok-Tell.field-0-is c.in-Ok-Tell.ensures.planned

pub returns-in-Err-clause-stepped : goal.returns-in-Err-clause-stepped
returns-in-Err-clause-stepped g c =
    unplanned_stepped c.args.self.now c.args.seat c.args.seat c.repo-2.result.now (call_of c.args.call.now) c.in-Err.fault (λ image honest left. g.met.D.Disk.only_now (disk_of (store_of c.args.self.now.book)) image honest left) c.repo.ensures.kept
    (sym c.is_stuck.ensures ∙ c.if-is_stuck.false) c.repo-2.ensures.value refl c.in-Err.ensures.refused

pub returns-in-Ok-Write-clause-refused : goal.returns-in-Ok-Write-clause-refused
returns-in-Ok-Write-clause-refused g c =
    of_step (is_stuck_in c.args.self.now) (is_stuck_in c.write.new.self) (now_of c.args.self.now) (now_of c.write.new.self) c.args.seat (call_of c.args.call.now) c.write.result
    (subst (λ (r : Repository). 0 < length r.revisions) c.repo.ensures.value c.head-head.ensures.begun)
    (writes (mirror_with c.repo-2.result.now.revisions (holder_of c.args.self.now)) c.args.seat (call_of c.args.call.now) c.in-Ok-Write.field-0 c.in-Ok-Write.entry c.in-Ok-Write.field-0-is c.in-Ok-Write.ensures.planned)
    c.write.ensures.stepped.step

pub returns-in-Err-clause-refused : goal.returns-in-Err-clause-refused
returns-in-Err-clause-refused g c =
    of_answer (mirror_with c.repo-2.result.now.revisions (holder_of c.args.self.now)) c.args.seat (call_of c.args.call.now) c.in-Err.fault
    (subst (λ (r : Repository). 0 < length r.revisions) (c.repo.ensures.value ∙ sym c.repo-2.ensures.value) c.head-head.ensures.begun)
    c.in-Err.ensures.refused
