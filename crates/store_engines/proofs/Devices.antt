-- What calls do to a store's device, one after another.
use Rattle.std.proofs.Common.{◌≡◌, ℕ, ◌<◌, ◌≤◌, ◌+◌, ◌^◌, ◌⊎◌, ◌↔◌, true, false, List, [], ◌∷◌, ◌++◌, length, Result, Ok, Err, IsErrOf, IfErr, Option, None, is_ok, map, refl, sym, ap, ap₂, subst, ◌∙◌, append_assoc, append-nil, arith, inl, inr, ⊎_elim}
use Rattle.std.proofs.lemmas.Bool.{true≢false}
use Rattle.std.proofs.lemmas.List.{map-append}
use Rattle.node_base.specs.Refusals.{refusal_number}
use Rattle.node_base.specs.declared.refusal.Refusal.{Refusal}
use Rattle.node_base.specs.declared.refusal.Refusal.TheVariants as refusal
use Rattle.dump_load.specs.declared.fault.ChangeFault.{ChangeFault}
use Rattle.dump_load.specs.declared.fault.ChangeFault.TheVariants as change
use Rattle.fleet_disk.specs.Image.{Image}
use Rattle.fleet_disk.specs.Rules.{LeavesOnly}
use Rattle.fleet_disk.specs.declared.disk.Disk.{Ghosts}
use Rattle.fleet_disk.proofs.Moments.{started, joined, weaker}
use Rattle.gate_log.specs.Log.{entries_of, version_of}
use Rattle.gate_log.specs.Standing.{last_end, parts}
use Rattle.gate_log.specs.declared.fault.LogFault.TheVariants as log
use Rattle.repo_core.specs.Entries.{revisions_after, with_entry_in}
use Rattle.repo_core.specs.declared.entry.Entry.{Entry}
use Rattle.repo_core.specs.Refusals.{IsDue}
use Rattle.repo_core.specs.Repository.{Repository}
use Rattle.repo_core.specs.declared.fault.RepoFault.{RepoFault}
use Rattle.repo_core.specs.declared.fault.RepoFault.TheVariants as core
use Rattle.repo_store.specs.Journal.{spelling, Keeps, IsBeforeOrAfter}
use Rattle.repo_store.specs.Changes.{IsBroken, IsRefused, IsTaken, Refuses, Stays}
use Rattle.repo_store.specs.Words.{disk_of, log_of, repository_of, HasFailed}
use Rattle.repo_store.specs.declared.store.RepoStore.{RepoStore}
use Rattle.repo_store.specs.declared.fault.StoreFault.{StoreFault}
use Rattle.repo_store.specs.declared.fault.StoreFault.TheVariants.{Repo, Log}
use Rattle.repo_store.proofs.Going.{rose_on}
use Rattle.dump_load.specs.Faults.{change_refusal}
use Rattle.node_base.specs.Tree.{PathMap}
use Rattle.whole_texts.specs.Refusals.{text_refusal}
use Rattle.whole_texts.specs.declared.refusal.TextRefusal.{TextRefusal}
use Rattle.whole_texts.specs.declared.refusal.TextRefusal.TheVariants as text
use Rattle.fleet_engines.specs.Revisions.{Rev, IsUnfit, not_next, too_many, not_whole, not_made}
use Rattle.store_engines.specs.Devices.{is_device, repository_after, IsSafe, CantKeep, IsOnTheWay, Serves, failed_before, no_room, device_fails}
use Rattle.store_engines.specs.Refusals.{repo_refusal, store_refusal}

-- ---- which refusals tell of the device

pub change_no_device : (f : ChangeFault) → is_device (change_refusal f) ≡ false
change_no_device change.BadHeader = refl
change_no_device change.TooLong = refl
change_no_device change.BadPath = refl
change_no_device change.NoSuchPath = refl
change_no_device change.PathThere = refl
change_no_device change.NotDir = refl
change_no_device change.NoSource = refl
change_no_device change.OutOfOrder = refl
change_no_device change.WrongNumber = refl
change_no_device change.KindMismatch = refl
change_no_device change.OutOfMemory = refl

text_no_device : (f : TextRefusal) → is_device (text_refusal f) ≡ false
text_no_device text.NoSuchPath = refl
text_no_device text.NoSource = refl
text_no_device text.KindMismatch = refl
text_no_device text.BadSum = refl
text_no_device text.BadWindow = refl
text_no_device text.TooLong = refl
text_no_device text.OutOfMemory = refl

pub unfit_no_device : (trees : List PathMap) (r : Rev) (e : Refusal) → IsUnfit trees r e → is_device e ≡ false
unfit_no_device trees r e (not_next far is) = ap is_device is
unfit_no_device trees r e (too_many f next many due is) = ap is_device is ∙ change_no_device f
unfit_no_device trees r e (not_whole f next few due is) = ap is_device is ∙ text_no_device f
unfit_no_device trees r e (not_made whole f few have due is) = ap is_device is ∙ change_no_device f

repo_no_device : (f : RepoFault) → is_device (repo_refusal f) ≡ false
repo_no_device core.NoSuchRevision = refl
repo_no_device (core.BaseMismatch found) = refl
repo_no_device core.Full = refl
repo_no_device (core.Behind head) = refl
repo_no_device (core.Change f) = change_no_device f
repo_no_device core.TooLong = refl
repo_no_device core.OutOfMemory = refl

abbrev refusal_in : Result (Unit {0}) Refusal → Refusal
refusal_in (Ok u) = refusal.OutOfMemory
refusal_in (Err e) = e

pub ok_is_none : (u : Unit {0}) (e : Refusal) → IsErrOf (Ok u) e → ⊥
ok_is_none u e h = true≢false (ap is_ok h)

pub is_none_of : (r : Result (Unit {0}) Refusal) (k : Refusal) → is_device k ≡ true → IfErr r (λ e. is_device e ≡ false) → IsErrOf r k → ⊥
is_none_of (Ok u) k d h e = ok_is_none u k e
is_none_of (Err x) k d h e = true≢false (sym d ∙ ap is_device (sym (ap refusal_in e)) ∙ h)

-- the fault that a refusal of the device was
abbrev device_fault : Refusal → StoreFault
device_fault refusal.DeviceFailed = Log log.DeviceFailed
device_fault refusal.Failed = Log log.Failed
device_fault e = Log log.OutOfMemory

was_fault : (f : StoreFault) → is_device (store_refusal f) ≡ true → device_fault (store_refusal f) ≡ f
was_fault (Repo f) h = absurd (true≢false (sym h ∙ repo_no_device f))
was_fault (Log log.DeviceFailed) h = refl
was_fault (Log log.Failed) h = refl
was_fault (Log (log.Damaged entry)) h = absurd (true≢false (sym h))
was_fault (Log log.NoRepository) h = absurd (true≢false (sym h))
was_fault (Log log.ThereAlready) h = absurd (true≢false (sym h))
was_fault (Log log.LogFull) h = absurd (true≢false (sym h))
was_fault (Log log.OutOfMemory) h = absurd (true≢false (sym h))

pub device_was : (f : StoreFault) → store_refusal f ≡ refusal.DeviceFailed → f ≡ Log log.DeviceFailed
device_was f e = sym (was_fault f (ap is_device e)) ∙ ap device_fault e

pub failed_was : (f : StoreFault) → store_refusal f ≡ refusal.Failed → f ≡ Log log.Failed
failed_was f e = sym (was_fault f (ap is_device e)) ∙ ap device_fault e

abbrev of_result : {T : Type 0} → Result T StoreFault → StoreFault
of_result (Ok v) = Log log.OutOfMemory
of_result (Err f) = f

pub fault_in : {T : Type 0} (f g : StoreFault) → IsErrOf {T = T} (Err f) g → f ≡ g
fault_in f g e = ap of_result e

-- a device that fails hasn't failed before
pub no_failure_before : Log log.DeviceFailed ≡ Log log.Failed → ⊥
no_failure_before e = let n : ◌≡◌ {A = ℕ} 31 32 = ap (λ f. refusal_number (store_refusal f)) e in let no : ⊥ = omega (arith, n) in no

-- ---- on the way

pub here : (r : Repository) (entries : List Entry) (image : Image) → Keeps r image → IsOnTheWay r entries image
here r entries image k = ([], entries, refl, k)

pub either : (r : Repository) (entry : Entry) (image : Image) → IsBeforeOrAfter r entry image → IsOnTheWay r (entry ∷ []) image
either r entry image (inl k) = ([], entry ∷ [], refl, k)
either r entry image (inr k) = (entry ∷ [], [], refl, k)

-- entries one after another
pub after_join : (r : Repository) (es fs : List Entry) → repository_after r (es ++ fs) ≡ repository_after (repository_after r es) fs
after_join r [] fs = refl
after_join r (e ∷ es) fs = after_join (with_entry_in r e) es fs

-- the revisions of it
pub after_revisions : (r : Repository) (es : List Entry) → (repository_after r es).revisions ≡ revisions_after r.revisions es
after_revisions r [] = refl
after_revisions r (e ∷ es) = after_revisions (with_entry_in r e) es

pub on_before : (r : Repository) (taken begun more all : List Entry) (image : Image) → begun ≡ [] → all ≡ taken ++ more → IsOnTheWay r (taken ++ begun) image → IsOnTheWay r all image
on_before r taken begun more all image none is (done, rest, e, k) =
    (done, rest ++ more, is ∙ ap (λ l. l ++ more) (sym (append-nil taken) ∙ ap (λ l. taken ++ l) (sym none) ∙ e) ∙ append_assoc done rest more, k)

pub on_after : (r s : Repository) (taken more all : List Entry) (image : Image) → s ≡ repository_after r taken → all ≡ taken ++ more → IsOnTheWay s more image → IsOnTheWay r all image
on_after r s taken more all image made is (done, rest, e, k) = (
  taken ++ done,
  rest,
  is ∙ ap (λ l. taken ++ l) e ∙ sym (append_assoc taken done rest),
  subst (λ v. Keeps v image) (ap (λ v. repository_after v done) made ∙ sym (after_join r taken done)) k,
)

-- what a stop at a moment leaves is what it may leave
abbrev pub OnlyNow : {D : Type 0} → Ghosts D → Type 0
OnlyNow {D} G = (disk : D) (image : Image) → G.honest disk → G.left_since disk (G.clock disk) image → G.may_leave disk image

-- ---- calls

module _ {D : Type 0} {G : Ghosts D} where
  -- the store stays as it is
  abbrev pub unmoved : (a b : RepoStore D G) (r : Result (Unit {0}) Refusal) → disk_of b ≡ disk_of a → repository_of b ≡ repository_of a → HasFailed b ↔ HasFailed a → (IsErrOf r refusal.DeviceFailed → ⊥) → (IsErrOf r refusal.Failed → HasFailed a) → IsSafe a → version_of (log_of b) ≡ version_of (log_of a) → entries_of (log_of b) ≡ entries_of (log_of a) → Serves a b r
  unmoved a b r disk repository works device failed safe same entries = record {
    honest = (λ h. subst (λ d. G.honest d) (sym disk) h, λ h. subst (λ d. G.honest d) disk h);
    later = subst (λ d. G.failures (disk_of a) ≤ G.failures d) (sym disk) (omega arith);
    device = λ e. absurd (device e);
    failed = failed;
    working = (λ f. inl (works.0 f), λ f. ⊎_elim (λ h. works.1 h) (λ e. absurd (device e)) f);
    taken = [];
    begun = [];
    made = repository;
    one = inl refl;
    any_moment = λ h w. subst (λ d. LeavesOnly G.clock G.left_since (disk_of a) d (IsOnTheWay (repository_of a) [])) (sym disk) (started G.clock G.left_since (disk_of a) (IsOnTheWay (repository_of a) []) (λ image left. here (repository_of a) [] image (safe h w image left)));
    safe = λ h w image left.
        subst (λ (v : Repository). Keeps v image) (sym repository)
        (safe (subst (λ d. G.honest d) disk h) (λ f. w (works.1 f)) image (subst (λ d. G.left_since d (G.clock d) image) disk left));
    written = λ h w. entries ∙ sym (append-nil (entries_of (log_of a)));
    version = same;
  }

  -- nothing is done
  abbrev pub unserved : (a : RepoStore D G) (r : Result (Unit {0}) Refusal) → IfErr r (λ e. is_device e ≡ false) → IsSafe a → Serves a a r
  unserved a r n safe = unmoved a a r refl refl (λ f. f, λ f. f) (is_none_of r refusal.DeviceFailed refl n) (λ e. absurd (is_none_of r refusal.Failed refl n e)) safe refl refl

  pub fell : (a b : RepoStore D G) (u : Unit {0}) → Serves a b (Ok u) → HasFailed b → HasFailed a
  fell a b u p f = ⊎_elim (λ h. h) (λ e. absurd (ok_is_none u refusal.DeviceFailed e)) (p.working.0 f)

  pub none_begun : (a b : RepoStore D G) (u : Unit {0}) (p : Serves a b (Ok u)) → p.begun ≡ []
  none_begun a b u p = ⊎_elim (λ e. e) (λ k. absurd (ok_is_none u refusal.DeviceFailed k.1)) p.one

  -- one call behind another
  abbrev pub serves_on : (a b c : RepoStore D G) (u : Unit {0}) (r : Result (Unit {0}) Refusal) → Serves a b (Ok u) → Serves b c r → Serves a c r
  serves_on a b c u r p q =
      let all : (p.taken ++ q.taken) ++ q.begun ≡ p.taken ++ (q.taken ++ q.begun) = append_assoc p.taken q.taken q.begun in
      record {
        honest = (λ h. q.honest.0 (p.honest.0 h), λ h. p.honest.1 (q.honest.1 h));
        later = omega (arith, p.later, q.later);
        device = λ e. rose_on (G.failures (disk_of a)) (G.failures (disk_of b)) (G.failures (disk_of c)) p.later (q.device e);
        failed = λ e. fell a b u p (q.failed e);
        working = (λ f. ⊎_elim (λ h. inl (fell a b u p h)) (λ e. inr e) (q.working.0 f), λ f. q.working.1 (⊎_elim (λ h. inl (p.working.1 (inl h))) (λ e. inr e) f));
        taken = p.taken ++ q.taken;
        begun = q.begun;
        made = q.made ∙ ap (λ v. repository_after v q.taken) p.made ∙ sym (after_join (repository_of a) p.taken q.taken);
        one = q.one;
        any_moment = λ h w.
            joined G.clock G.left_since (disk_of a) (disk_of b) (disk_of c) (IsOnTheWay (repository_of a) ((p.taken ++ q.taken) ++ q.begun)) (IsOnTheWay (repository_of b) (q.taken ++ q.begun))
            (weaker G.clock G.left_since (disk_of a) (disk_of b) (IsOnTheWay (repository_of a) (p.taken ++ p.begun)) (IsOnTheWay (repository_of a) ((p.taken ++ q.taken) ++ q.begun)) (p.any_moment h w)
            (λ image k. on_before (repository_of a) p.taken p.begun (q.taken ++ q.begun) ((p.taken ++ q.taken) ++ q.begun) image (none_begun a b u p) all k))
            (q.any_moment (p.honest.0 h) (λ f. w (fell a b u p f)))
            (λ image k. on_after (repository_of a) (repository_of b) p.taken (q.taken ++ q.begun) ((p.taken ++ q.taken) ++ q.begun) image p.made all k);
        safe = q.safe;
        written = λ h w.
            q.written (p.honest.0 h) w
            ∙ ap (λ l. l ++ map spelling q.taken) (p.written h (λ f. w (q.working.1 (inl f))))
            ∙ append_assoc (entries_of (log_of a)) (map spelling p.taken) (map spelling q.taken)
            ∙ ap (λ l. entries_of (log_of a) ++ l) (sym (map-append spelling p.taken q.taken));
        version = q.version ∙ p.version;
      }

  -- what is refused behind a call, for another reason
  abbrev pub serves_then : (a b : RepoStore D G) (u : Unit {0}) (r : Result (Unit {0}) Refusal) → IfErr r (λ e. is_device e ≡ false) → Serves a b (Ok u) → Serves a b r
  serves_then a b u r n p = serves_on a b b u r p (unserved b r n p.safe)

  -- an entry is taken
  abbrev pub took : (a b : RepoStore D G) (entry : Entry) → OnlyNow G → IsTaken entry a b → version_of (log_of b) ≡ version_of (log_of a) → Serves a b (Ok tt)
  took a b entry only t same = record {
    honest = t.honest;
    later = t.later;
    device = λ e. absurd (ok_is_none tt refusal.DeviceFailed e);
    failed = λ e. absurd (ok_is_none tt refusal.Failed e);
    working = (λ f. absurd (t.works f), λ f. ⊎_elim (λ h. absurd (t.worked h)) (λ e. absurd (ok_is_none tt refusal.DeviceFailed e)) f);
    taken = entry ∷ [];
    begun = [];
    made = t.made;
    one = inl refl;
    any_moment = λ h w. weaker G.clock G.left_since (disk_of a) (disk_of b) (IsBeforeOrAfter (repository_of a) entry) (IsOnTheWay (repository_of a) (entry ∷ [])) (t.any_moment h) (λ image k. either (repository_of a) entry image k);
    safe = λ h w image left. subst (λ (v : Repository). Keeps v image) (sym t.made) (t.durable (t.honest.1 h) image (only (disk_of b) image h left));
    written = λ h w. t.written h;
    version = same;
  }

  -- the device fails
  abbrev pub broke : (a b : RepoStore D G) (entry : Entry) (fault : StoreFault) → IsBroken entry a b fault → version_of (log_of b) ≡ version_of (log_of a) → Serves a b (Err (store_refusal fault))
  broke a b entry fault k same = record {
    honest = k.honest;
    later = k.later;
    device = λ e. k.device;
    failed = λ e. absurd (no_failure_before (sym k.fault ∙ failed_was fault (ap refusal_in e)));
    working = (λ f. inr (ap (λ v. Err (store_refusal v)) k.fault), λ f. k.failed);
    taken = [];
    begun = entry ∷ [];
    made = k.same;
    one = inr (refl, ap (λ v. Err (store_refusal v)) k.fault);
    any_moment = λ h w. weaker G.clock G.left_since (disk_of a) (disk_of b) (IsBeforeOrAfter (repository_of a) entry) (IsOnTheWay (repository_of a) (entry ∷ [])) (k.any_moment h) (λ image v. either (repository_of a) entry image v);
    safe = λ h w. absurd (w k.failed);
    written = λ h w. absurd (w k.failed);
    version = same;
  }

  -- a store that stays has its entries
  pub entries_same : (a b : RepoStore D G) → Stays a b → entries_of (log_of b) ≡ entries_of (log_of a)
  entries_same a b same = ap₂ (λ (d : D) (ends : List ℕ). parts 0 ends (G.reads d).journal) same.disk same.entries

  -- an entry is refused
  abbrev pub refused : (a b : RepoStore D G) (entry : Entry) (due : Option RepoFault) (fault : StoreFault) → Stays a b → Refuses a entry due fault → IsSafe a → version_of (log_of b) ≡ version_of (log_of a) → Serves a b (Err (store_refusal fault))
  refused a b entry due fault s why safe same =
      unmoved a b (Err (store_refusal fault)) s.disk s.repository s.working (λ e. subst (Refuses a entry due) (device_was fault (ap refusal_in e)) why) (λ e. subst (Refuses a entry due) (failed_was fault (ap refusal_in e)) why) safe same (entries_same a b s)

  -- what is staged, or refused before, is for another reason
  abbrev pub staged_none : (a b : RepoStore D G) (e : Refusal) → is_device e ≡ false → disk_of b ≡ disk_of a → repository_of b ≡ repository_of a → HasFailed b ↔ HasFailed a → IsSafe a → version_of (log_of b) ≡ version_of (log_of a) → entries_of (log_of b) ≡ entries_of (log_of a) → Serves a b (Err e)
  staged_none a b e n disk repository works safe same entries = unmoved a b (Err e) disk repository works (is_none_of (Err e) refusal.DeviceFailed refl n) (λ k. absurd (is_none_of (Err e) refusal.Failed refl n k)) safe same entries

  -- what isn't taken leaves the repository as it was
  pub stays_as_it_is : (a b : RepoStore D G) (entry : Entry) (due : Option RepoFault) (fault : StoreFault) → ((due ≡ None) × IsBroken entry a b fault) ⊎ IsRefused entry due a b fault → repository_of b ≡ repository_of a
  stays_as_it_is a b entry due fault (inl k) = k.1.same
  stays_as_it_is a b entry due fault (inr r) = r.stays.repository

  -- a refusal of the store is want of memory, or is why it can't keep the entry, or is the one that is due
  pub why_refused : (a b : RepoStore D G) (entry : Entry) (due : Option RepoFault) (fault : StoreFault) → Stays a b → Refuses a entry due fault
      → (store_refusal fault ≡ refusal.OutOfMemory) ⊎ CantKeep b entry (store_refusal fault) ⊎ ((f : RepoFault) × IsDue f due × (store_refusal fault ≡ repo_refusal f))
  why_refused a b entry due (Repo f) s why = inr (inr (f, why.1, refl))
  why_refused a b entry due (Log log.Failed) s why = inr (inl (failed_before refl (s.working.1 why)))
  why_refused a b entry due (Log log.LogFull) s why = inr (inl (no_room refl (subst (λ ends. 2 ^ 56 < last_end 0 ends + length (spelling entry)) (sym s.entries) why.2)))
  why_refused a b entry due (Log log.OutOfMemory) s why = inl refl
  why_refused a b entry due (Log log.DeviceFailed) s why = absurd why
  why_refused a b entry due (Log (log.Damaged n)) s why = absurd why
  why_refused a b entry due (Log log.NoRepository) s why = absurd why
  why_refused a b entry due (Log log.ThereAlready) s why = absurd why

  pub stop_or_due : (a b : RepoStore D G) (entry : Entry) (due : Option RepoFault) (fault : StoreFault) → ((due ≡ None) × IsBroken entry a b fault) ⊎ IsRefused entry due a b fault
      → (store_refusal fault ≡ refusal.OutOfMemory) ⊎ CantKeep b entry (store_refusal fault) ⊎ ((f : RepoFault) × IsDue f due × (store_refusal fault ≡ repo_refusal f))
  stop_or_due a b entry due fault (inl k) =
      inr (inl (device_fails (ap store_refusal k.1.fault) (λ o image l. subst (λ (v : Repository). IsBeforeOrAfter v entry image) (sym k.1.same) (k.1.either (k.1.honest.1 o) image l))))
  stop_or_due a b entry due fault (inr r) = why_refused a b entry due fault r.stays r.why
