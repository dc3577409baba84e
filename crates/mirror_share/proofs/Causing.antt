-- Why a step of a shared mirror is refused for its device, its cells or its journal.
use Rattle.std.proofs.Common.{◌≡◌, inl, inr, Bool, true, false, Option, Some, Err, refl, sym, ap, ◌∙◌}
use Rattle.std.proofs.lemmas.Bool.{true≢false}
use Rattle.std.specs.Prelude.{ℕ, ◌==◌}
use Rattle.fleet_disk.specs.declared.disk.Disk.{Ghosts}
use Rattle.node_base.specs.declared.refusal.Refusal.TheVariants as refusal
use Rattle.repo_core.specs.declared.entry.Entry.{Entry}
use Rattle.repo_core.specs.declared.fault.RepoFault.{RepoFault}
use Rattle.repo_store.specs.Changes.{IsBroken, Refuses, Stays}
use Rattle.repo_store.specs.Words.{revisions_of}
use Rattle.repo_store.specs.declared.fault.StoreFault.{StoreFault}
use Rattle.repo_store.specs.declared.store.RepoStore.{RepoStore}
use Rattle.sync_core.specs.Copies.{number_in}
use Rattle.sync_core.specs.Mirror.{Mirror, Call, entry_of}
use Rattle.sync_core.specs.Plain.{AnswersErr}
use Rattle.sync_core.specs.declared.fault.SyncFault.{SyncFault}
use Rattle.sync_core.specs.declared.fault.SyncFault.TheVariants as fault
use Rattle.sync_job.specs.StoreFaults.{fault_of}
use Rattle.sync_job.proofs.Devices.{asked_refused, asked_unstaged, full_refused, full_unstaged}
use Rattle.mirror_share.specs.Causes.{IsCausedBy}

not_31 : (f : SyncFault) (n : ℕ) → number_in f ≡ n → (n == 31) ≡ false → number_in f ≡ 31 → ⊥
not_31 f n is other e = true≢false (ap (λ k. k == 31) (sym e ∙ is) ∙ other)

not_32 : (f : SyncFault) (n : ℕ) → number_in f ≡ n → (n == 32) ≡ false → number_in f ≡ 32 → ⊥
not_32 f n is other e = true≢false (ap (λ k. k == 32) (sym e ∙ is) ∙ other)

not_full : (f : SyncFault) (n : ℕ) → number_in f ≡ n → (n == 36) ≡ false → f ≡ fault.Other refusal.LogFull → ⊥
not_full f n is other e = true≢false (ap (λ k. k == 36) (sym (ap number_in e) ∙ is) ∙ other)

module _ {D : Type 0} {G : Ghosts D} where
  -- a call isn't planned
  pub refused_cause : (store : RepoStore D G) (stuck : Bool) (m : Mirror) (seat : ℕ) (call : Call) (f : SyncFault) → AnswersErr m seat call f m → IsCausedBy store store stuck call f
  refused_cause store stuck m seat call f r =
      let told = (asked_refused store m seat call f r).causes.0 in
      record {
        device = told.device;
        failed = λ e. inl (told.failed e);
        full = λ e. full_refused store m seat call f r (ap Err e);
        untouched = inr (inr refl);
      }

  -- its entry isn't taken
  pub left_cause : (old new : RepoStore D G) (stuck : Bool) (call : Call) (e : Entry) (due : Option RepoFault) (x : StoreFault) (f : SyncFault) → entry_of (revisions_of old) call ≡ Some e → Stays old new → Refuses old e due x → f ≡ fault_of x → IsCausedBy old new stuck call f
  left_cause old new stuck call e due x f entry stays why same =
      let told = (asked_unstaged old new call e due x f (stays, why) same).causes.0 in
      record {
        device = told.device;
        failed = λ n. inl (told.failed n);
        full = λ n. full_unstaged old new call e due x f entry (stays, why) same (ap Err n);
        untouched = inr (inr stays.disk);
      }

  -- the device fails
  pub broken_cause : (old new : RepoStore D G) (stuck : Bool) (call : Call) (e : Entry) (x : StoreFault) (f : SyncFault) → IsBroken e old new x → f ≡ fault_of x → IsCausedBy old new stuck call f
  broken_cause old new stuck call e x f b same =
      let is : number_in f ≡ 31 = ap number_in (same ∙ ap fault_of b.fault) in
      record {
        device = λ n. b.device;
        failed = λ n. inl (inr b.device);
        full = λ n. absurd (not_full f 31 is refl n);
        untouched = inl is;
      }

  -- a cell refuses its box, or has before
  pub stuck_cause : (old new : RepoStore D G) (stuck : Bool) (call : Call) → stuck ≡ true → IsCausedBy old new stuck call (fault.Other refusal.Failed)
  stuck_cause old new stuck call is = record {
    device = λ n. absurd (not_31 (fault.Other refusal.Failed) 32 refl refl n);
    failed = λ n. inr is;
    full = λ n. absurd (not_full (fault.Other refusal.Failed) 32 refl refl n);
    untouched = inr (inl refl);
  }

  -- want of memory before anything is done
  pub memory_cause : (store : RepoStore D G) (stuck : Bool) (call : Call) (f : SyncFault) → f ≡ fault.OutOfMemory → IsCausedBy store store stuck call f
  memory_cause store stuck call f out =
      let is : number_in f ≡ 70 = ap number_in out in
      record {
        device = λ n. absurd (not_31 f 70 is refl n);
        failed = λ n. absurd (not_32 f 70 is refl n);
        full = λ n. absurd (not_full f 70 is refl n);
        untouched = inr (inr refl);
      }
