-- Why no repository is begun or opened, by the fault of a folder and by that of a store, and what is left then.
use Rattle.std.proofs.Common.{◌≡◌, ◌≢◌, ◌≤◌, ◌↔◌, ◌⊎◌, ◌∙◌, ℕ, List, [], ap, inl, inr, refl, sym, subst, arith}
use Rattle.fleet_disk.specs.Image.{no_bytes}
use Rattle.fleet_disk.specs.Rules.{Rose}
use Rattle.fleet_disk.specs.declared.disk.Disk.{Ghosts}
use Rattle.gate_log.specs.Standing.{HasNoEntry}
use Rattle.gate_log.specs.declared.fault.LogFault.TheVariants as log
use Rattle.node_base.specs.declared.refusal.Refusal.{Refusal}
use Rattle.node_base.specs.declared.refusal.Refusal.TheVariants as refusal
use Rattle.repo_store.specs.Journal.{IsDamaged, Keeps}
use Rattle.repo_store.specs.Openings.{IsCreated, IsOpened as IsStored, NotCreated, NotOpened as NotStored}
use Rattle.repo_store.specs.Refusals.{log_refusal, store_refusal, IsCreateFault, IsOpenFault}
use Rattle.repo_store.specs.declared.fault.StoreFault.{StoreFault}
use Rattle.repo_store.specs.declared.fault.StoreFault.TheVariants.{Repo, Log}
use Rattle.repo_store.specs.declared.store.RepoStore.{RepoStore}
use Rattle.fleet_main.specs.Doing.{IsBegunOn, IsOpenedOn}
use Rattle.fleet_main.specs.Loans.{AreBack, IsLent, Loan, TakesBack, only_of}
use Rattle.fleet_main.specs.Opening.{IsUnbegun, IsUnopened, NotBegunIn, NotOpened, NotOpenedIn, WhyUnbegun, WhyUnopened, folder_refusal}
use Rattle.fleet_main.specs.Opening.{begin_fails, begin_no_memory, there_already, host_fails, host_no_memory, not_on, open_fails, open_no_memory, no_entry, damaged, nameless, no_disk, no_memory, unopened}
use Rattle.fleet_main.specs.declared.lending.Folders.{Ghosts as FolderGhosts}
use Rattle.fleet_disk.specs.declared.folder_fault.FolderFault.{FolderFault}
use Rattle.fleet_disk.specs.declared.folder_fault.FolderFault.TheVariants as fault
use Rattle.fleet_main.proofs.Loans.{one_back}

-- by the fault of a creation
why_unbegun : {D : Type 0} (G : Ghosts D) (honest : Type 0) (given back : D) (f : StoreFault) (e : Refusal) → e ≡ store_refusal f → (honest → G.honest given) → IsCreateFault f
    → (f ≡ Log log.DeviceFailed → Rose (G.failures given) (G.failures back)) → (f ≡ Log log.OutOfMemory → back ≡ given) → (G.honest given → f ≡ Log log.ThereAlready → G.reads given ≢ no_bytes) → WhyUnbegun G honest given back e
why_unbegun G honest given back (Repo f) e is rules k device memory there = absurd k
why_unbegun G honest given back (Log f) e is rules (inl h) device memory there = begin_fails (is ∙ ap log_refusal h) (device (ap Log h))
why_unbegun G honest given back (Log f) e is rules (inr (inl h)) device memory there = there_already (is ∙ ap log_refusal h) (λ o. there (rules o) (ap Log h))
why_unbegun G honest given back (Log f) e is rules (inr (inr h)) device memory there = begin_no_memory (is ∙ ap log_refusal h) (memory (ap Log h))

pub unbegun : {D : Type 0} (G : Ghosts D) (honest : Type 0) (identity : List ℕ) (given back : D) (f : StoreFault) (e : Refusal) → e ≡ store_refusal f → (honest → G.honest given) → NotCreated G identity given (f, back)
    → IsUnbegun G honest identity given back e
unbegun G honest identity given back f e is rules left = record {
  why = why_unbegun G honest given back f e is rules left.no_other left.device left.memory left.there;
  stays = λ h. left.looks (rules h);
  any_moment = λ h. left.any_moment (rules h);
}

-- by the fault of an opening
why_unopened : {D : Type 0} (G : Ghosts D) (honest : Type 0) (given back : D) (f : StoreFault) (e : Refusal) → e ≡ store_refusal f → (honest → G.honest given) → IsOpenFault f
    → (f ≡ Log log.DeviceFailed → Rose (G.failures given) (G.failures back)) → (G.honest given → (entry : ℕ) → f ≡ Log (log.Damaged entry) → IsDamaged entry (G.reads given))
    → (G.honest given → f ≡ Log log.NoRepository → HasNoEntry (G.reads given)) → WhyUnopened G honest given back e
why_unopened G honest given back (Repo f) e is rules k device bad missing = absurd k
why_unopened G honest given back (Log log.DeviceFailed) e is rules k device bad missing = open_fails is (device refl)
why_unopened G honest given back (Log (log.Damaged entry)) e is rules k device bad missing = damaged entry is (λ o. bad (rules o) entry refl)
why_unopened G honest given back (Log log.NoRepository) e is rules k device bad missing = no_entry is (λ o. missing (rules o) refl)
why_unopened G honest given back (Log log.OutOfMemory) e is rules k device bad missing = open_no_memory is
why_unopened G honest given back (Log log.Failed) e is rules k device bad missing = absurd k
why_unopened G honest given back (Log log.ThereAlready) e is rules k device bad missing = absurd k
why_unopened G honest given back (Log log.LogFull) e is rules k device bad missing = absurd k

unless_failed : (f : StoreFault) (e : Refusal) (P : Type 0) → e ≡ store_refusal f → (f ≡ Log log.DeviceFailed) ⊎ P → e ≢ refusal.DeviceFailed → P
unless_failed f e P is (inl h) other = absurd (other (is ∙ ap store_refusal h))
unless_failed f e P is (inr p) other = p

pub is_unopened : {D : Type 0} (G : Ghosts D) (honest : Type 0) (given back : D) (f : StoreFault) (e : Refusal) → e ≡ store_refusal f → (honest → G.honest given) → NotStored G given (f, back) → IsUnopened G honest given back e
is_unopened G honest given back f e is rules left = record {
  why = why_unopened G honest given back f e is rules left.no_other left.device left.damaged left.missing;
  left = λ h other. unless_failed f e _ is (left.kept (rules h)) other;
  any_moment = λ h. left.any_moment (rules h);
  version_stays = λ h. left.version_stays (rules h);
}

-- a store that is begun
pub begun_on : {D : Type 0} (G : Ghosts D) (honest : Type 0) (identity : List ℕ) (given : D) (store : RepoStore D G) → (honest → G.honest given) → IsCreated G identity given store → IsBegunOn G honest identity given store
begun_on G honest identity given store rules begun = record {
  sound = rules;
  empty = λ h. begun.empty (rules h);
  made = begun.made;
  version = begun.version;
  kept = λ h. (begun.honest.0 (rules h), λ left may. subst (λ r. Keeps r left) (sym begun.made) (begun.durable (rules h) left may));
  any_moment = λ h. begun.any_moment (rules h);
}

-- a store that is opened
pub opened_on : {D : Type 0} (G : Ghosts D) (honest : Type 0) (given : D) (store : RepoStore D G) → (honest → G.honest given) → IsStored G given store → IsOpenedOn G honest given store
opened_on G honest given store rules opened = record {
  stands = λ h. opened.stands (rules h);
  keeps = λ h. opened.keeps (rules h);
  sound = rules;
  rules = λ h. opened.honest.0 (rules h);
  working = opened.working;
  any_moment = λ h. opened.any_moment (rules h);
  version = λ h. opened.version (rules h);
  version_stays = λ h. opened.version_stays (rules h);
}

-- a smaller premise
pub opened_under : {D : Type 0} (G : Ghosts D) (honest less : Type 0) (given : D) (store : RepoStore D G) → (less → honest) → IsOpenedOn G honest given store → IsOpenedOn G less given store
opened_under G honest less given store so o = record {
  stands = λ h. o.stands (so h);
  keeps = λ h. o.keeps (so h);
  sound = λ h. o.sound (so h);
  rules = λ h. o.rules (so h);
  working = o.working;
  any_moment = λ h. o.any_moment (so h);
  version = λ h. o.version (so h);
  version_stays = λ h. o.version_stays (so h);
}

why_under : {D : Type 0} (G : Ghosts D) (honest less : Type 0) (given back : D) (e : Refusal) → (less → honest) → WhyUnopened G honest given back e → WhyUnopened G less given back e
why_under G honest less given back e so (open_fails h r) = open_fails h r
why_under G honest less given back e so (open_no_memory h) = open_no_memory h
why_under G honest less given back e so (no_entry h n) = no_entry h (λ o. n (so o))
why_under G honest less given back e so (damaged entry h d) = damaged entry h (λ o. d (so o))

unopened_under : {D : Type 0} (G : Ghosts D) (honest less : Type 0) (given back : D) (e : Refusal) → (less → honest) → IsUnopened G honest given back e → IsUnopened G less given back e
unopened_under G honest less given back e so u = record {
  why = why_under G honest less given back e so u.why;
  left = λ h. u.left (so h);
  any_moment = λ h. u.any_moment (so h);
  version_stays = λ h. u.version_stays (so h);
}

pub not_opened_under : {D : Type 0} (G : Ghosts D) (honest less fails more : Type 0) (folder : List ℕ) (loans : List (Loan D)) (e : Refusal) → (less → honest) → (fails → more) → NotOpened G honest fails folder loans e
    → NotOpened G less more folder loans e
not_opened_under G honest less fails more folder loans e so also (nameless h n l) = nameless h n l
not_opened_under G honest less fails more folder loans e so also (no_disk h f l) = no_disk h (also f) l
not_opened_under G honest less fails more folder loans e so also (no_memory h l) = no_memory h l
not_opened_under G honest less fails more folder loans e so also (unopened given back l u) = unopened given back l (unopened_under G honest less given back e so u)

-- a count that rose meanwhile rose
pub rose_between : (a b c d : ℕ) → a ≤ b → c ≤ d → Rose b c → Rose a d
rose_between a b c d first last (inl rose) = inl (omega (arith, first, last, rose))
rose_between a b c d first last (inr full) = inr (omega (arith, last, full))

module _ {F D : Type 0} (G : Ghosts D) (H : FolderGhosts F D) (folders then later : F) (folder : List ℕ) where
  -- the folder lends no disk
  pub begin_unlent : (identity : List ℕ) (f : FolderFault) (e : Refusal) → e ≡ folder_refusal f → (f ≡ fault.DeviceFailed → Rose (H.failures folders) (H.failures later)) → AreBack G H folders later []
      → NotBegunIn G H folders later folder identity e
  begin_unlent identity fault.DeviceFailed e same rose a = ([], host_fails same (rose refl) refl, a)
  begin_unlent identity fault.OutOfMemory e same rose a = ([], host_no_memory same refl, a)

  pub open_unlent : (f : FolderFault) (e : Refusal) → e ≡ folder_refusal f → (f ≡ fault.DeviceFailed → Rose (H.failures folders) (H.failures later)) → AreBack G H folders later [] → NotOpenedIn G H folders later folder e
  open_unlent fault.DeviceFailed e same rose a = ([], no_disk same (rose refl) refl, a)
  open_unlent fault.OutOfMemory e same rose a = ([], no_memory same refl, a)

  pub open_nameless : (e : Refusal) → e ≡ refusal.NoRepository → folder ≡ [] → AreBack G H folders later [] → NotOpenedIn G H folders later folder e
  open_nameless e same none a = ([], nameless same none refl, a)

  -- or takes it back
  pub begin_refused : (identity : List ℕ) (given back : D) (e : Refusal) → IsLent G H folders then folder given → TakesBack G H then later folder back → (G.honest given ↔ G.honest back)
      → IsUnbegun G (H.honest folders) identity given back e → NotBegunIn G H folders later folder identity e
  begin_refused identity given back e l t both u = (only_of folder given back, not_on given back refl u, one_back G H folders then later folder given back l (λ h. both.0 (l.rules h)) t)

  pub open_refused : (given back : D) (e : Refusal) → IsLent G H folders then folder given → TakesBack G H then later folder back → (G.honest given ↔ G.honest back) → IsUnopened G (H.honest folders) given back e
      → NotOpenedIn G H folders later folder e
  open_refused given back e l t both u = (only_of folder given back, unopened given back refl u, one_back G H folders then later folder given back l (λ h. both.0 (l.rules h)) t)
