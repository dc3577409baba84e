-- Changes made ready, and then installed.
use Rattle.std.proofs.Common.{◌≡◌, ◌≤◌, ◌⊎◌, ◌↔◌, ◌++◌, ◌∷◌, [], List, ℕ, IsTrue, is_some, Option, None, Some, Result, Ok, Err, IfOk, OnOk, IfErr, refl, sym, ◌∙◌, ap, ap₂, subst, inl, inr}
use Rattle.fleet_disk.specs.Image.{Image}
use Rattle.fleet_disk.specs.Rules.{LeavesOnly, Rose}
use Rattle.fleet_disk.specs.declared.disk.Disk.{Ghosts}
use Rattle.gate_log.specs.Log.{entries_of}
use Rattle.gate_log.specs.Standing.{parts}
use Rattle.gate_log.specs.declared.fault.LogFault.{LogFault}
use Rattle.gate_log.specs.declared.fault.LogFault.TheVariants as log
use Rattle.repo_core.specs.Repository.{Repository}
use Rattle.repo_core.specs.Entries.{with_entry_in}
use Rattle.repo_core.specs.Refusals.{IsDue}
use Rattle.repo_core.specs.Staging.{StagedEntry}
use Rattle.repo_core.specs.declared.entry.Entry.{Entry}
use Rattle.repo_core.specs.declared.entry.Entry.TheVariants.{Revised, Mapped}
use Rattle.repo_core.specs.declared.fault.RepoFault.{RepoFault}
use Rattle.repo_core.specs.declared.fault.RepoFault.TheVariants as fault
use Rattle.repo_store.specs.Changes.{Changes, Installs, IsBroken, IsJudged, IsTaken, Stages, Stays}
use Rattle.repo_store.specs.Journal.{Keeps, KeepsOr, IsBeforeOrAfter, spelling}
use Rattle.repo_store.specs.Words.{disk_of, doubt_of, entry_in, log_of, repository_of, HasFailed}
use Rattle.repo_store.specs.declared.fault.StoreFault.{StoreFault}
use Rattle.repo_store.specs.declared.staged.Staged.{Staged}
use Rattle.repo_store.specs.declared.store.RepoStore.{RepoStore}
use Rattle.repo_store.proofs.Images.{unmoved}
use Rattle.repo_store.proofs.Keeping.{kept_now, no_doubt}

-- ---- what is due

-- the one that is due
pub due_is : (f : RepoFault) (due : Option RepoFault) → due ≡ Some f → IsDue f due
due_is fault.NoSuchRevision due e = e
due_is (fault.BaseMismatch found) due e = e
due_is fault.Full due e = e
due_is (fault.Behind head) due e = e
due_is (fault.Change f) due e = e
due_is fault.TooLong due e = e
due_is fault.OutOfMemory due e = tt

pub judged_of : (entry : Entry) (refused : Option RepoFault) (r : Result StagedEntry RepoFault)
    → IfOk r (λ s. s.entry ≡ entry) → OnOk r (refused ≡ None) → IfErr r (λ f. IsDue f refused) → IsJudged entry refused r
judged_of entry refused (Ok s) is none due = (none, is)
judged_of entry refused (Err f) is none due = due

-- an append for which there is room, on a device that works, is refused for the device alone
pub only_device : (f : LogFault) → (f ≡ log.DeviceFailed) ⊎ (f ≡ log.Failed) ⊎ (f ≡ log.LogFull) ⊎ (f ≡ log.OutOfMemory) → (f ≡ log.Failed → ⊥) → (f ≡ log.LogFull → ⊥) → (f ≡ log.OutOfMemory → ⊥) → f ≡ log.DeviceFailed
only_device f (inl e) a b d = e
only_device f (inr (inl e)) a b d = absurd (a e)
only_device f (inr (inr (inl e))) a b d = absurd (b e)
only_device f (inr (inr (inr e))) a b d = absurd (d e)

-- ---- one after the other

module _ {D : Type 0} {G : Ghosts D} where
  pub stays : (store : RepoStore D G) → Stays store store
  stays store = record { disk = refl; repository = refl; doubt = refl; entries = refl; working = (λ f. f, λ f. f) }

  -- what is staged of an entry
  pub stages_as : (entry staged : Entry) (refused : Option RepoFault) (old new : RepoStore D G) (r : Result Staged StoreFault) → (refused ≡ None) × (staged ≡ entry) → Stages staged None old new r → Stages entry refused old new r
  stages_as entry staged refused old new r (none, same) s = subst (λ (x : Option RepoFault). Stages entry x old new r) (sym none) (subst (λ (e : Entry). Stages e None old new r) same s)

  -- it isn't staged
  pub not_staged : (T : Type 0) (entry : Entry) (refused : Option RepoFault) (old new : RepoStore D G) (e : StoreFault) → Stages entry refused old new (Err e)
      → ∥ (G.honest (disk_of old) → (image : Image) → G.may_leave (disk_of old) image → KeepsOr (repository_of old) (doubt_of old) image) ∥₁ → (IsTrue (is_some (doubt_of old)) → HasFailed old)
      → (G.honest (disk_of old) → (image : Image) → G.left_since (disk_of old) (G.clock (disk_of old)) image → G.may_leave (disk_of old) image) → Changes {T = T} entry refused old new (Err e)
  not_staged T entry refused old new e s kept doubted only =
      inr (record {
        why = s.1;
        stays = s.0;
        doubtless = no_doubt (doubt_of old) doubted;
        any_moment = λ h. unmoved G.clock G.left_since G.may_leave (disk_of old) (disk_of new) (KeepsOr (repository_of old) (doubt_of old)) s.0.disk (only h) (kept_now (repository_of old) (doubt_of old) kept h);
      })

  entries_same : (old mid : RepoStore D G) → Stays old mid → entries_of (log_of mid) ≡ entries_of (log_of old)
  entries_same old mid same = ap₂ (λ (d : D) (ends : List ℕ). parts 0 ends (G.reads d).journal) same.disk same.entries

  taken_as : (entry : Entry) (old mid new : RepoStore D G) → Stays old mid → IsTaken entry mid new → IsTaken entry old new
  taken_as entry old mid new same t = record {
    worked = λ f. t.worked (same.working.1 f);
    works = t.works;
    made = t.made ∙ ap (λ (r : Repository). with_entry_in r entry) same.repository;
    written = λ h. t.written (subst (λ (d : D). G.honest d) (sym same.disk) h) ∙ ap (λ (l : List (List ℕ)). l ++ spelling entry ∷ []) (entries_same old mid same);
    durable = λ h image left. subst (λ (r : Repository). Keeps (with_entry_in r entry) image) same.repository (t.durable (subst (λ (d : D). G.honest d) (sym same.disk) h) image left);
    any_moment = λ h.
        subst (λ (r : Repository). LeavesOnly G.clock G.left_since (disk_of old) (disk_of new) (IsBeforeOrAfter r entry)) same.repository
        (subst (λ (d : D). LeavesOnly G.clock G.left_since d (disk_of new) (IsBeforeOrAfter (repository_of mid) entry)) same.disk (t.any_moment (subst (λ (d : D). G.honest d) (sym same.disk) h)));
    honest = subst (λ (d : D). G.honest d ↔ G.honest (disk_of new)) same.disk t.honest;
    later = subst (λ (d : D). G.failures d ≤ G.failures (disk_of new)) same.disk t.later;
  }

  broken_as : (entry : Entry) (old mid new : RepoStore D G) (e : StoreFault) → Stays old mid → IsBroken entry mid new e → IsBroken entry old new e
  broken_as entry old mid new e same b = record {
    fault = b.fault;
    worked = λ f. b.worked (same.working.1 f);
    failed = b.failed;
    same = b.same ∙ same.repository;
    doubt = b.doubt;
    either = λ h image left. subst (λ (r : Repository). IsBeforeOrAfter r entry image) same.repository (b.either (subst (λ (d : D). G.honest d) (sym same.disk) h) image left);
    any_moment = λ h.
        subst (λ (r : Repository). LeavesOnly G.clock G.left_since (disk_of old) (disk_of new) (IsBeforeOrAfter r entry)) same.repository
        (subst (λ (d : D). LeavesOnly G.clock G.left_since d (disk_of new) (IsBeforeOrAfter (repository_of mid) entry)) same.disk (b.any_moment (subst (λ (d : D). G.honest d) (sym same.disk) h)));
    device = subst (λ (d : D). Rose (G.failures d) (G.failures (disk_of new))) same.disk b.device;
    honest = subst (λ (d : D). G.honest d ↔ G.honest (disk_of new)) same.disk b.honest;
    later = subst (λ (d : D). G.failures d ≤ G.failures (disk_of new)) same.disk b.later;
  }

  -- what is staged is installed
  pub changes_as : (T : Type 0) (entry : Entry) (refused : Option RepoFault) (old mid new : RepoStore D G) (staged : Staged) (r : Result T StoreFault)
      → Stages entry refused old mid (Ok staged) → Installs {T = T} (entry_in staged) mid new r → Changes {T = T} entry refused old new r
  changes_as T entry refused old mid new staged (Ok answer) s i = (s.taken, taken_as entry old mid new s.stays (subst (λ (e : Entry). IsTaken e mid new) s.says i))
  changes_as T entry refused old mid new staged (Err e) s i = inl (s.taken, broken_as entry old mid new e s.stays (subst (λ (x : Entry). IsBroken x mid new e) s.says i))
