use Rattle.std.proofs.Common.{Err, refl, sym, ◌∙◌}
use Rattle.repo_store.specs.Words.{disk_of}
use Rattle.store_share.specs.Book.{store_of}
use Rattle.sync_core.specs.Calls.{call_of}
use Rattle.sync_core.specs.declared.fault.SyncFault.TheVariants.{OutOfMemory}
use Rattle.mirror_share.proofs.Exits.{no_memory_stepped, stuck_stepped}
use Rattle.mirror_share.proofs.calls.CallBook.turn_away.Goals as goal

pub returns-then-is_stuck-clause-stepped : goal.returns-then-is_stuck-clause-stepped
returns-then-is_stuck-clause-stepped g c =
    stuck_stepped c.args.self.now c.args.seat (call_of c.args.call.now) (λ image honest left. g.met.D.Disk.only_now (disk_of (store_of c.args.self.now.book)) image honest left) c.repo.ensures.kept
    (sym c.is_stuck.ensures ∙ c.if-is_stuck.true)

pub returns-clause-stepped : goal.returns-clause-stepped
returns-clause-stepped g c =
    no_memory_stepped c.args.self.now c.args.self.now c.args.seat (call_of c.args.call.now) (Err OutOfMemory) OutOfMemory refl refl (sym c.is_stuck.ensures ∙ c.if-is_stuck.false)
    (λ image honest left. g.met.D.Disk.only_now (disk_of (store_of c.args.self.now.book)) image honest left) c.repo.ensures.kept refl refl refl refl refl
