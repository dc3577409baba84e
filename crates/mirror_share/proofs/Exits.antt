-- What a step leaves, exit by exit.
use Rattle.std.specs.Prelude.{IfErr, OnOk}
use Rattle.std.proofs.Common.{◌≡◌, ◌⊎◌, inl, inr, ◌↔◌, ◌<◌, ◌≤◌, ◌+◌, ◌++◌, [], ◌∷◌, ℕ, length, Bool, true, false, Option, Result, Ok, Err, refl, sym, ap, subst, ◌∙◌, arith}
use Rattle.std.proofs.lemmas.Bool.{true≢false}
use Rattle.std.proofs.lemmas.List.{append-nil}
use Rattle.fleet_disk.specs.Image.{Image}
use Rattle.fleet_disk.specs.declared.disk.Disk.{Ghosts}
use Rattle.gate_log.specs.declared.fault.LogFault.TheVariants as log
use Rattle.node_base.specs.declared.refusal.Refusal.TheVariants as refusal_is
use Rattle.repo_core.specs.Repository.{Repository}
use Rattle.repo_core.specs.Refusals.{by_repository}
use Rattle.repo_core.specs.declared.entry.Entry.{Entry}
use Rattle.repo_core.specs.declared.fault.RepoFault.{RepoFault}
use Rattle.repo_store.specs.Changes.{Refuses}
use Rattle.repo_store.specs.Words.{disk_of, repository_of, revisions_of, IsKept}
use Rattle.repo_store.specs.declared.fault.StoreFault.{StoreFault}
use Rattle.repo_store.specs.declared.fault.StoreFault.TheVariants.{Log}
use Rattle.repo_store.specs.declared.store.RepoStore.{RepoStore}
use Rattle.store_share.specs.Book.{head_of, is_stuck, notes_of, store_of}
use Rattle.store_share.specs.Changes.{IsAccepted as IsTakenIn, IsLeft, IsBrokenOff, IsHidden as IsHiddenBy}
use Rattle.store_share.specs.Shown.{Shows}
use Rattle.store_share.specs.declared.book.MasterBook.{MasterBook}
use Rattle.sync_core.specs.Mirror.{Call, holder_after, mirror_with}
use Rattle.sync_core.specs.Plain.{AnswersErr}
use Rattle.sync_core.specs.Plans.{IsToWrite, IsPlanned}
use Rattle.sync_core.specs.declared.planning.Planned.{Planned}
use Rattle.sync_core.specs.declared.planning.Planned.TheVariants.{Tell}
use Rattle.sync_core.specs.declared.standing.Standing.{Standing}
use Rattle.sync_core.specs.declared.fault.SyncFault.{SyncFault}
use Rattle.sync_core.specs.declared.fault.SyncFault.TheVariants as fault
use Rattle.sync_core.specs.declared.reply.Reply.{Reply as Given}
use Rattle.sync_core.specs.declared.reply.Reply.TheVariants as given
use Rattle.sync_job.specs.Mirrors.{mirror_in}
use Rattle.sync_job.specs.StoreFaults.{fault_of}
use Rattle.mirror_share.specs.declared.calls.CallBook.{CallBook}
use Rattle.mirror_share.specs.Book.{master_of, store_in, is_stuck_in, holder_of, now_of, opening_of, calls_of, jobs_of}
use Rattle.mirror_share.specs.Causes.{IsCausedBy}
use Rattle.mirror_share.specs.Stepped.{Stepped}
use Rattle.mirror_share.specs.Steps.{StepsShown, Stuck, now_at, taken_by}
use Rattle.sync_job.proofs.Stores.{look_told}
use Rattle.mirror_share.proofs.Causing.{refused_cause, left_cause, broken_cause, stuck_cause, memory_cause}
use Rattle.mirror_share.proofs.Stepping.{Doubts, accepted_step, broken_step, left_step, hidden_step, taken_moments, broken_moments, same_moments, head_later, no_memory, seen_step, refused_step}

-- what a stop at this moment leaves is what it may leave now
abbrev pub OnlyNow : {D : Type 0} {G : Ghosts D} → RepoStore D G → Type 0
OnlyNow {G} store = (c : Image) → G.honest (disk_of store) → G.left_since (disk_of store) (G.clock (disk_of store)) c → G.may_leave (disk_of store) c

module _ {L D : Type 0} {r : _} {g : Ghosts D} where
  abbrev Step : CallBook L D r g → CallBook L D r g → ℕ → Call → Result Given SyncFault → Bool → Type 0
  Step old new seat call result b = StepsShown b (now_of old) seat call result (is_stuck_in new) (now_of new)

  pub accepted_stepped : (entry : Entry) (old new : CallBook L D r g) (seat : ℕ) (call : Call)
      → IsToWrite (mirror_in (now_of old)) seat call entry → is_stuck_in old ≡ false
      → Doubts (store_in old) → Doubts (store_in new) → (is_stuck_in old ≡ false → head_of (master_of old) + 1 ≡ length (revisions_of (store_in old)))
      → IsTakenIn entry (by_repository (revisions_of (store_in old)) entry) (master_of old) (master_of new)
      → IsKept (store_in new) → Shows (head_of (master_of new) + 1) (notes_of (master_of new)) (repository_of (store_in new))
      → holder_of new ≡ holder_after (holder_of old) seat call → calls_of new ≡ calls_of old ++ call ∷ [] → opening_of new ≡ opening_of old → jobs_of new ≡ jobs_of old
      → Stepped old new seat call (Ok given.Done)
  accepted_stepped entry old new seat call p works d e newest a kept shows holder more first jobs = record {
    step = subst (Step old new seat call (Ok given.Done)) (sym works) (accepted_step entry (master_of old) (master_of new) (holder_of old) (holder_of new) seat call p d e a holder);
    any_moment = taken_moments entry (store_in old) (store_in new) (holder_of old) (holder_of new) d e a.store;
    durable = kept;
    honest = a.store.honest;
    later = a.store.later;
    causes = tt;
    shown = λ i h. shows i (subst (λ n. i < n) (sym a.head) h);
    head = head_later (repository_of (store_in old)) (repository_of (store_in new)) entry (head_of (master_of old)) (head_of (master_of new)) a.store.made (newest works) a.head;
    calls = λ same. more;
    opening = first;
    jobs = jobs;
  }

  pub broken_stepped : (entry : Entry) (old new : CallBook L D r g) (seat : ℕ) (call : Call) (x : StoreFault) (f : SyncFault)
      → IsToWrite (mirror_in (now_of old)) seat call entry → is_stuck_in old ≡ false → Doubts (store_in old)
      → IsBrokenOff entry (by_repository (revisions_of (store_in old)) entry) (master_of old) (master_of new) x → f ≡ fault_of x
      → IsKept (store_in new) → holder_of new ≡ holder_of old → calls_of new ≡ calls_of old → opening_of new ≡ opening_of old → jobs_of new ≡ jobs_of old
      → Stepped old new seat call (Err f)
  broken_stepped entry old new seat call x f p works d b same kept holder more first jobs = record {
    step = subst (Step old new seat call (Err f)) (sym works)
        (subst (λ k. StepsShown false (now_of old) seat call (Err f) (is_stuck_in new) (now_at (store_in new) k)) (sym holder)
        (broken_step entry (master_of old) (master_of new) (holder_of old) seat call x f p d b same));
    any_moment = broken_moments entry (store_in old) (store_in new) (holder_of old) (holder_of new) x b.store;
    durable = kept;
    honest = b.store.honest;
    later = b.store.later;
    causes = broken_cause (store_in old) (store_in new) (is_stuck_in new) call entry x f b.store same;
    shown = tt;
    head = omega (arith, b.head);
    calls = λ stuck. more ∙ sym (append-nil (calls_of old));
    opening = first;
    jobs = jobs;
  }

  pub left_stepped : (entry : Entry) (old new : CallBook L D r g) (seat : ℕ) (call : Call) (x : StoreFault) (f : SyncFault)
      → IsToWrite (mirror_in (now_of old)) seat call entry → is_stuck_in old ≡ false → Doubts (store_in old)
      → IsLeft entry (by_repository (revisions_of (store_in old)) entry) (master_of old) (master_of new) x → f ≡ fault_of x → OnlyNow (store_in old)
      → IsKept (store_in old) → IsKept (store_in new) → holder_of new ≡ holder_of old → calls_of new ≡ calls_of old → opening_of new ≡ opening_of old → jobs_of new ≡ jobs_of old
      → Stepped old new seat call (Err f)
  left_stepped entry old new seat call x f p works d l same only before kept holder more first jobs = record {
    step = subst (Step old new seat call (Err f)) (sym works)
        (subst (λ k. StepsShown false (now_of old) seat call (Err f) (is_stuck_in new) (now_at (store_in new) k)) (sym holder)
        (left_step entry (master_of old) (master_of new) (holder_of old) seat call x f works p d l same));
    any_moment = same_moments (store_in old) (store_in new) (holder_of old) (holder_of new) only before l.stays.disk;
    durable = kept;
    honest = subst (λ d. g.honest (disk_of (store_in old)) ↔ g.honest d) (sym l.stays.disk) (λ h. h, λ h. h);
    later = subst (λ d. g.failures (disk_of (store_in old)) ≤ g.failures d) (sym l.stays.disk) (omega arith);
    causes = cause l.why;
    shown = tt;
    head = omega (arith, l.head);
    calls = λ stuck. more ∙ sym (append-nil (calls_of old));
    opening = first;
    jobs = jobs;
  }
    where
      due : Option RepoFault
      due = by_repository (revisions_of (store_in old)) entry

      cause : ((is_stuck_in old ≡ true) × (x ≡ Log log.Failed)) ⊎ ((is_stuck_in old ≡ false) × Refuses (store_in old) entry due x) → IsCausedBy (store_in old) (store_in new) (is_stuck_in new) call f
      cause (inl w) = absurd (true≢false (sym w.0 ∙ works))
      cause (inr w) = left_cause (store_in old) (store_in new) (is_stuck_in new) call entry due x f p.entry l.stays w.1 same

  pub hidden_stepped : (entry : Entry) (old new : CallBook L D r g) (seat : ℕ) (call : Call) (x : StoreFault)
      → IsToWrite (mirror_in (now_of old)) seat call entry → is_stuck_in old ≡ false → Doubts (store_in old) → Doubts (store_in new)
      → IsHiddenBy entry (by_repository (revisions_of (store_in old)) entry) (master_of old) (master_of new) x
      → IsKept (store_in new) → holder_of new ≡ holder_of old → opening_of new ≡ opening_of old → jobs_of new ≡ jobs_of old
      → Stepped old new seat call (Err (fault.Other refusal_is.Failed))
  hidden_stepped entry old new seat call x p works d e a kept holder first jobs = record {
    step = subst (Step old new seat call (Err (fault.Other refusal_is.Failed))) (sym works)
        (subst (λ k. StepsShown false (now_of old) seat call (Err (fault.Other refusal_is.Failed)) (is_stuck_in new) (now_at (store_in new) k)) (sym holder)
        (hidden_step entry (master_of old) (master_of new) (holder_of old) seat call x p d e a));
    any_moment = taken_moments entry (store_in old) (store_in new) (holder_of old) (holder_of new) d e a.store;
    durable = kept;
    honest = a.store.honest;
    later = a.store.later;
    causes = stuck_cause (store_in old) (store_in new) (is_stuck_in new) call a.stuck;
    shown = tt;
    head = omega (arith, a.head);
    calls = λ same. (let n : true ≡ false = sym a.stuck ∙ same ∙ works in absurd (cc));
    opening = first;
    jobs = jobs;
  }

  -- nothing is done, and a refusal or a look is answered
  pub same_stepped : (old new : CallBook L D r g) (seat : ℕ) (call : Call) (result : Result Given SyncFault)
      → OnlyNow (store_in old) → IsKept (store_in old) → OnOk result (Shows (length (revisions_of (store_in old))) (notes_of (master_of old)) (repository_of (store_in old)))
      → StepsShown (is_stuck_in old) (now_of old) seat call result (is_stuck_in old) (now_of old) → IfErr result (IsCausedBy (store_in old) (store_in old) (is_stuck_in old) call) → taken_by call result ≡ []
      → master_of new ≡ master_of old → holder_of new ≡ holder_of old → calls_of new ≡ calls_of old → opening_of new ≡ opening_of old → jobs_of new ≡ jobs_of old
      → Stepped old new seat call result
  same_stepped old new seat call result only kept shows step causes none master holder more first jobs = record {
    step = subst (λ m. StepsShown (is_stuck_in old) (now_of old) seat call result (is_stuck m) (now_at (store_of m) (holder_of new))) (sym master)
        (subst (λ k. StepsShown (is_stuck_in old) (now_of old) seat call result (is_stuck_in old) (now_at (store_in old) k)) (sym holder) step);
    any_moment = same_moments (store_in old) (store_in new) (holder_of old) (holder_of new) only kept (ap (λ m. disk_of (store_of m)) master);
    durable = subst (λ (m : MasterBook L D r g). IsKept (store_of m)) (sym master) kept;
    honest = subst (λ (m : MasterBook L D r g). g.honest (disk_of (store_in old)) ↔ g.honest (disk_of (store_of m))) (sym master) (λ h. h, λ h. h);
    later = subst (λ (m : MasterBook L D r g). g.failures (disk_of (store_in old)) ≤ g.failures (disk_of (store_of m))) (sym master) (omega arith);
    causes = subst (λ (m : MasterBook L D r g). IfErr result (IsCausedBy (store_in old) (store_of m) (is_stuck m) call)) (sym master) causes;
    shown = subst (λ (m : MasterBook L D r g). OnOk result (Shows (length (revisions_of (store_of m))) (notes_of m) (repository_of (store_of m)))) (sym master) shows;
    head = omega (arith, ap (λ (m : MasterBook L D r g). head_of m) master);
    calls = λ stuck. more ∙ sym (append-nil (calls_of old)) ∙ ap (λ cs. calls_of old ++ cs) (sym none);
    opening = first;
    jobs = jobs;
  }

  -- where no cell refused its box, the cells show all revisions
  pub shows_all : (m : MasterBook L D r g) → is_stuck m ≡ false → Shows (head_of m + 1) (notes_of m) (repository_of (store_of m)) → (is_stuck m ≡ false → head_of m + 1 ≡ length (revisions_of (store_of m)))
      → Shows (length (revisions_of (store_of m))) (notes_of m) (repository_of (store_of m))
  shows_all m works shows newest i h = shows i (subst (λ n. i < n) (sym (newest works)) h)

  -- a look is answered
  pub told_stepped : (old : CallBook L D r g) (seat k : ℕ) (repo : Repository) (call : Call) (p : Planned) (s : Standing)
      → OnlyNow (store_in old) → IsKept (store_in old) → Shows (head_of (master_of old) + 1) (notes_of (master_of old)) (repository_of (store_in old))
      → (is_stuck_in old ≡ false → head_of (master_of old) + 1 ≡ length (revisions_of (store_in old))) → is_stuck_in old ≡ false
      → repo ≡ repository_of (store_in old) → k ≡ seat → p ≡ Tell s → IsPlanned (mirror_with repo.revisions (holder_of old)) k call p
      → Stepped old old seat call (Ok (given.Seen s))
  told_stepped old seat k repo call p s only kept shows newest works same at is planned =
      same_stepped old old seat call (Ok (given.Seen s)) only kept (shows_all (master_of old) works shows newest)
      (subst (λ b. StepsShown b (now_of old) seat call (Ok (given.Seen s)) b (now_of old)) (sym works)
      (seen_step (now_of old) seat call s
      (look_told (mirror_in (now_of old)) seat call p s is (subst (λ (x : Repository). IsPlanned (mirror_with x.revisions (holder_of old)) seat call p) same (subst (λ n. IsPlanned (mirror_with repo.revisions (holder_of old)) n call p) at planned)))))
      tt refl refl refl refl refl refl

  -- a call isn't planned
  pub unplanned_stepped : (old : CallBook L D r g) (seat k : ℕ) (repo : Repository) (call : Call) (f : SyncFault)
      → OnlyNow (store_in old) → IsKept (store_in old) → is_stuck_in old ≡ false
      → repo ≡ repository_of (store_in old) → k ≡ seat → AnswersErr (mirror_with repo.revisions (holder_of old)) k call f (mirror_with repo.revisions (holder_of old))
      → Stepped old old seat call (Err f)
  unplanned_stepped old seat k repo call f only kept works same at answers =
      same_stepped old old seat call (Err f) only kept tt
      (subst (λ b. StepsShown b (now_of old) seat call (Err f) b (now_of old)) (sym works)
      (refused_step (now_of old) seat call f
      (subst (λ (x : Repository). AnswersErr (mirror_with x.revisions (holder_of old)) seat call f (mirror_with x.revisions (holder_of old))) same
      (subst (λ n. AnswersErr (mirror_with repo.revisions (holder_of old)) n call f (mirror_with repo.revisions (holder_of old))) at answers))))
      (refused_cause (store_in old) (is_stuck_in old) (mirror_with repo.revisions (holder_of old)) k call f answers)
      refl refl refl refl refl refl

  -- an entry isn't taken, or the device failed
  pub refused_stepped : (entry : Entry) (old new : CallBook L D r g) (seat : ℕ) (call : Call) (x : StoreFault) (f : SyncFault)
      → IsToWrite (mirror_in (now_of old)) seat call entry → is_stuck_in old ≡ false → is_stuck_in new ≡ false → Doubts (store_in old)
      → IsLeft entry (by_repository (revisions_of (store_in old)) entry) (master_of old) (master_of new) x
      ⊎ IsBrokenOff entry (by_repository (revisions_of (store_in old)) entry) (master_of old) (master_of new) x
      ⊎ IsHiddenBy entry (by_repository (revisions_of (store_in old)) entry) (master_of old) (master_of new) x
      → f ≡ fault_of x → OnlyNow (store_in old)
      → IsKept (store_in old) → IsKept (store_in new) → holder_of new ≡ holder_of old → calls_of new ≡ calls_of old → opening_of new ≡ opening_of old → jobs_of new ≡ jobs_of old
      → Stepped old new seat call (Err f)
  refused_stepped entry old new seat call x f p works free d (inl l) same only before kept holder more first jobs = left_stepped entry old new seat call x f p works d l same only before kept holder more first jobs
  refused_stepped entry old new seat call x f p works free d (inr (inl b)) same only before kept holder more first jobs = broken_stepped entry old new seat call x f p works d b same kept holder more first jobs
  refused_stepped entry old new seat call x f p works free d (inr (inr h)) same only before kept holder more first jobs = let n : true ≡ false = sym h.stuck ∙ free in absurd (cc)

  -- want of memory
  pub no_memory_stepped : (old new : CallBook L D r g) (seat : ℕ) (call : Call) (result : Result Given SyncFault) (f : SyncFault) → result ≡ Err f → f ≡ fault.OutOfMemory → is_stuck_in old ≡ false
      → OnlyNow (store_in old) → IsKept (store_in old)
      → master_of new ≡ master_of old → holder_of new ≡ holder_of old → calls_of new ≡ calls_of old → opening_of new ≡ opening_of old → jobs_of new ≡ jobs_of old
      → Stepped old new seat call result
  no_memory_stepped old new seat call result f is out works only kept master holder more first jobs =
      subst (Stepped old new seat call) (sym is)
      (same_stepped old new seat call (Err f) only kept tt (subst (λ b. StepsShown b (now_of old) seat call (Err f) b (now_of old)) (sym works) (no_memory (now_of old) seat call f out))
      (memory_cause (store_in old) (is_stuck_in old) call f out) refl master holder more first jobs)

  -- a cell has refused its box before
  pub stuck_stepped : (old : CallBook L D r g) (seat : ℕ) (call : Call) → OnlyNow (store_in old) → IsKept (store_in old) → is_stuck_in old ≡ true → Stepped old old seat call (Err (fault.Other refusal_is.Failed))
  stuck_stepped old seat call only kept stuck =
      same_stepped old old seat call (Err (fault.Other refusal_is.Failed)) only kept tt (Stuck stuck stuck refl refl) (stuck_cause (store_in old) (store_in old) (is_stuck_in old) call stuck) refl refl refl refl refl refl
