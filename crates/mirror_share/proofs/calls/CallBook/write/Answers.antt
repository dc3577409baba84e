use Rattle.std.proofs.Common.{◌∷◌, [], ◌++◌, map, refl, sym, ap, ◌∙◌}
use Rattle.std.proofs.lemmas.Result.{err_from_is_err_and}
use Rattle.repo_core.specs.Refusals.{by_repository}
use Rattle.repo_store.specs.Words.{disk_of, repository_of, revisions_of}
use Rattle.store_share.specs.Book.{store_of}
use Rattle.sync_core.specs.Calls.{call_of}
use Rattle.sync_core.specs.Copies.{call_in}
use Rattle.sync_job.specs.Fronts.{replayed}
use Rattle.mirror_share.specs.Book.{now_of}
use Rattle.mirror_share.proofs.Coming.{came_more}
use Rattle.mirror_share.proofs.Stepping.{free_of, must_hide, replay_more, kept_more}
use Rattle.mirror_share.proofs.Exits.{accepted_stepped, hidden_stepped, refused_stepped, no_memory_stepped}
use Rattle.mirror_share.proofs.calls.CallBook.write.Goals as goal

pub returns-in_err-reserve-clause-stepped : goal.returns-in_err-reserve-clause-stepped
returns-in_err-reserve-clause-stepped g c =
    let p = err_from_is_err_and c.from_residual.result c.from_residual.ensures.1 in
    no_memory_stepped c.args.self.now _ c.args.seat (call_of c.args.call.now) c.from_residual.result p.0 p.1 p.2 c.requires.works (λ image honest left. g.met.D.Disk.only_now (disk_of (store_of c.args.self.now.book)) image honest left) c.repo.ensures.kept
    refl refl (ap (map call_in) c.reserve.ensures.items) refl refl

pub returns-in_err-kept-clause-stepped : goal.returns-in_err-kept-clause-stepped
returns-in_err-kept-clause-stepped g c =
    let p = err_from_is_err_and c.from_residual-in_err-kept.result c.from_residual-in_err-kept.ensures.1 in
    no_memory_stepped c.args.self.now _ c.args.seat (call_of c.args.call.now) c.from_residual-in_err-kept.result p.0 p.1 p.2 c.requires.works (λ image honest left. g.met.D.Disk.only_now (disk_of (store_of c.args.self.now.book)) image honest left) c.repo.ensures.kept
    refl refl (ap (map call_in) c.reserve.ensures.items) refl refl

pub invariant_of-self-in-Ok : goal.invariant_of-self-in-Ok
invariant_of-self-in-Ok g c = record {
  replay =
      replay_more c.args.self.now.opening.value (repository_of (store_of c.args.self.now.book)) (repository_of (store_of c.take.new.book)) c.args.self.now.calls.items c.in_ok-kept.kept (call_of c.args.call.now) c.args.entry
      c.args.self.now.replay c.in_ok-kept.ensures c.requires.planned.entry c.in-Ok.ensures.store.made
      ∙ ap (λ xs. replayed c.args.self.now.opening.value (map call_in xs)) (sym (c.push_reserved.ensures.items ∙ ap (λ xs. xs ++ c.in_ok-kept.kept ∷ []) c.reserve.ensures.items));
  came =
      came_more c.args.self.now.opening.value (repository_of (store_of c.args.self.now.book)) c.args.self.now.calls.items _ _ c.in_ok-kept.kept (call_of c.args.call.now) c.args.self.now.holder c.args.seat c.push_reserved.ensures.items c.reserve.ensures.items
      c.args.self.now.came c.args.self.now.replay c.in_ok-kept.ensures (free_of (now_of c.args.self.now) c.args.seat (call_of c.args.call.now) c.args.entry c.requires.planned c.in-Ok.ensures.taken);
}

pub returns-in-Ok-clause-stepped : goal.returns-in-Ok-clause-stepped
returns-in-Ok-clause-stepped g c =
    accepted_stepped c.args.entry c.args.self.now _ c.args.seat (call_of c.args.call.now) c.requires.planned c.requires.works c.repo.ensures.doubted c.repo-in-Ok.ensures.doubted c.repo.ensures.newest c.in-Ok.ensures c.repo-in-Ok.ensures.kept c.repo-in-Ok.ensures.shown
    c.holder_after-self.ensures
    (ap (map call_in) (c.push_reserved.ensures.items ∙ ap (λ xs. xs ++ c.in_ok-kept.kept ∷ []) c.reserve.ensures.items) ∙ kept_more c.args.self.now.calls.items c.in_ok-kept.kept (call_of c.args.call.now) c.in_ok-kept.ensures) refl refl

pub invariant_of-self-then-is_stuck : goal.invariant_of-self-then-is_stuck
invariant_of-self-then-is_stuck g c =
    let h = must_hide c.args.entry (by_repository (revisions_of (store_of c.args.self.now.book)) c.args.entry) c.args.self.now.book c.take.new.book c.in-Err.fault c.in-Err.ensures c.requires.works (sym c.is_stuck.ensures ∙ c.if-is_stuck.true) in
    record {
      replay =
          replay_more c.args.self.now.opening.value (repository_of (store_of c.args.self.now.book)) (repository_of (store_of c.take.new.book)) c.args.self.now.calls.items c.in_ok-kept.kept (call_of c.args.call.now) c.args.entry
          c.args.self.now.replay c.in_ok-kept.ensures c.requires.planned.entry h.store.made
          ∙ ap (λ xs. replayed c.args.self.now.opening.value (map call_in xs)) (sym (c.push_reserved-then-is_stuck.ensures.items ∙ ap (λ xs. xs ++ c.in_ok-kept.kept ∷ []) c.reserve.ensures.items));
      came =
          came_more c.args.self.now.opening.value (repository_of (store_of c.args.self.now.book)) c.args.self.now.calls.items _ _ c.in_ok-kept.kept (call_of c.args.call.now) c.args.self.now.holder c.args.seat c.push_reserved-then-is_stuck.ensures.items c.reserve.ensures.items
          c.args.self.now.came c.args.self.now.replay c.in_ok-kept.ensures (free_of (now_of c.args.self.now) c.args.seat (call_of c.args.call.now) c.args.entry c.requires.planned h.taken);
    }

pub returns-then-is_stuck-clause-stepped : goal.returns-then-is_stuck-clause-stepped
returns-then-is_stuck-clause-stepped g c =
    let h = must_hide c.args.entry (by_repository (revisions_of (store_of c.args.self.now.book)) c.args.entry) c.args.self.now.book c.take.new.book c.in-Err.fault c.in-Err.ensures c.requires.works (sym c.is_stuck.ensures ∙ c.if-is_stuck.true) in
    hidden_stepped c.args.entry c.args.self.now _ c.args.seat (call_of c.args.call.now) c.in-Err.fault c.requires.planned c.requires.works c.repo.ensures.doubted c.repo-in-Err.ensures.doubted h c.repo-in-Err.ensures.kept refl refl refl

pub returns-else-is_stuck-clause-stepped : goal.returns-else-is_stuck-clause-stepped
returns-else-is_stuck-clause-stepped g c =
    refused_stepped c.args.entry c.args.self.now _ c.args.seat (call_of c.args.call.now) c.in-Err.fault c.fault_of.result c.requires.planned c.requires.works (sym c.is_stuck.ensures ∙ c.if-is_stuck.false) c.repo.ensures.doubted c.in-Err.ensures c.fault_of.ensures
    (λ image honest left. g.met.D.Disk.only_now (disk_of (store_of c.args.self.now.book)) image honest left) c.repo.ensures.kept c.repo-in-Err.ensures.kept refl (ap (map call_in) c.reserve.ensures.items) refl refl
