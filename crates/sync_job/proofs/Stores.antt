-- What a call does to a mirror in a store.
use Rattle.std.proofs.Common.{◌≡◌, ◌⊎◌, ◌↔◌, inl, inr, ℕ, ◌≤◌, List, Option, Some, None, IsSome, MatchOption, Result, Ok, Err, refl, sym, ap, subst, ◌∙◌, arith}
use Rattle.std.specs.Option.{option_map, option_map_or}
use Rattle.fleet_disk.specs.Image.{Image}
use Rattle.fleet_disk.specs.Rules.{LeavesOnly}
use Rattle.fleet_disk.specs.declared.disk.Disk.{Ghosts}
use Rattle.gate_log.specs.declared.fault.LogFault.TheVariants as log
use Rattle.node_base.specs.declared.refusal.Refusal.TheVariants as refusal_is
use Rattle.repo_core.specs.Repository.{Revision}
use Rattle.repo_core.specs.Entries.{with_entry_in}
use Rattle.repo_core.specs.Refusals.{by_repository}
use Rattle.repo_core.specs.Refusals as core
use Rattle.repo_core.specs.declared.entry.Entry.{Entry}
use Rattle.repo_core.specs.declared.entry.Entry.TheVariants.{Revised, Mapped}
use Rattle.repo_core.specs.declared.fault.RepoFault.{RepoFault}
use Rattle.repo_core.specs.declared.fault.RepoFault.TheVariants as repo
use Rattle.repo_store.specs.Changes.{Stays, Refuses, IsStaged, IsTaken, IsBroken}
use Rattle.repo_store.specs.Changes as changes
use Rattle.repo_store.specs.Journal as journal
use Rattle.repo_store.specs.Words.{disk_of, repository_of, revisions_of, HasFailed}
use Rattle.repo_store.specs.declared.fault.StoreFault.{StoreFault}
use Rattle.repo_store.specs.declared.fault.StoreFault.TheVariants.{Repo, Log}
use Rattle.repo_store.specs.declared.staged.Staged.{Staged}
use Rattle.repo_store.specs.declared.store.RepoStore.{RepoStore}
use Rattle.sync_core.specs.Faults.{of_repository}
use Rattle.sync_core.specs.Mirror.{Mirror, Call, Init, TakeLock, StealLock, ReleaseLock, SetCopying, Commit, PutProps, SetMerged, ClearCopying, Look, Refusal, OfRepository, Refused, refusal, standing_of, entry_of, mirror_with, granted, holder_after}
use Rattle.sync_core.specs.Mirror as mirror_reply
use Rattle.sync_core.specs.Plain.{IsNumbered, IsRefused, AnswersErr}
use Rattle.sync_core.specs.Plans.{IsToWrite, IsPlanned}
use Rattle.sync_core.specs.declared.planning.Planned.{Planned}
use Rattle.sync_core.specs.declared.planning.Planned.TheVariants.{Tell}
use Rattle.sync_core.specs.declared.fault.SyncFault.{SyncFault}
use Rattle.sync_core.specs.declared.fault.SyncFault.TheVariants as fault
use Rattle.sync_core.specs.declared.reply.Reply.{Reply as Given}
use Rattle.sync_core.specs.declared.reply.Reply.TheVariants as given
use Rattle.sync_core.specs.declared.standing.Standing.{Standing}
use Rattle.sync_job.specs.Kept.{IsWrite}
use Rattle.sync_job.specs.StoreFaults.{fault_of}
use Rattle.sync_job.specs.declared.alone.AloneMirror.{AloneMirror}
use Rattle.sync_job.specs.Mirrors.{MirrorNow, Moves, mirror_in, repository_by, accepted, doubted, ByTable, IsCause, Due, NoMemory, NoRoom, Broken, Steps, Accepted, Doubted, Unchanged, Keeps}
use Rattle.sync_job.specs.Alone.{StandsAt, Moved}

-- the entry of a call is one of the store's too
pub numbered : (x : List Revision) (e : Entry) → IsNumbered x e → changes.IsNumbered x e
numbered x (Revised n set props) h = h
numbered x (Mapped n props) h = tt

-- a call with an entry is no look, and is answered by nothing
pub writes : (x : List Revision) (call : Call) (e : Entry) → entry_of x call ≡ Some e → IsWrite call
writes x (Commit n set props) e k = tt
writes x (Init url uuid props) e k = tt
writes x (TakeLock t) e k = tt
writes x (StealLock t) e k = tt
writes x ReleaseLock e k = tt
writes x (SetCopying n) e k = tt
writes x (PutProps n props) e k = tt
writes x (SetMerged n) e k = tt
writes x ClearCopying e k = tt
writes x Look e k = absurd (cc)

done_by : (m : Mirror) (call : Call) → IsWrite call → mirror_reply.Done ≡ granted m call
done_by m (Commit n set props) w = refl
done_by m (Init url uuid props) w = refl
done_by m (TakeLock t) w = refl
done_by m (StealLock t) w = refl
done_by m ReleaseLock w = refl
done_by m (SetCopying n) w = refl
done_by m (PutProps n props) w = refl
done_by m (SetMerged n) w = refl
done_by m ClearCopying w = refl
done_by m Look w = absurd w

-- what was planned over the store's repository was planned over the mirror's
planned_at : {D : Type 0} {G : Ghosts D} (old : RepoStore D G) (h : Option ℕ) (call : Call) (e : Entry) (m : MirrorNow) → StandsAt old h m → IsToWrite (mirror_with (revisions_of old) h) 0 call e → IsToWrite (mirror_in m) 0 call e
planned_at old h call e m s p = subst (λ r. IsToWrite (mirror_with r.revisions m.holder) 0 call e) (sym s.repository) (subst (λ k. IsToWrite (mirror_with (revisions_of old) k) 0 call e) (sym s.holder_is) p)

-- the mirror is as it was
unchanged : {D : Type 0} {G : Ghosts D} (old new : RepoStore D G) (h : Option ℕ) (call : Call) (f : SyncFault) (m : MirrorNow)
    → ((c : Image) → G.honest (disk_of old) → G.left_since (disk_of old) (G.clock (disk_of old)) c → G.may_leave (disk_of old) c)
    → StandsAt old h m → IsCause m 0 call f → disk_of new ≡ disk_of old → repository_of new ≡ repository_of old → HasFailed new ↔ HasFailed old → Moved old new h h call (Err f) m
unchanged {G} old new h call f m only s cause d r w =
    record {
      now = m;
      steps = Unchanged f refl cause refl;
      there = record {
        repository = s.repository ∙ sym r;
        holder_is = s.holder_is;
        doubt = (λ x. s.doubt.0 (w.0 x), λ x. w.1 (s.doubt.1 x));
        images = λ honest image left. s.images (subst G.honest d honest) image (subst (λ k. G.may_leave k image) d left);
      };
      images = λ honest. record {
        later = subst (λ k. G.clock (disk_of old) ≤ G.clock k) (sym d) (omega arith);
        each = λ c left. inl (s.images honest c (only c honest (subst (λ k. G.left_since k (G.clock (disk_of old)) c) d left)));
        before = λ t c le left. inl (subst (λ k. G.left_since k t c) d left);
      };
    }

-- what the repository refuses of the entry is refused of the call
by_table : (m : MirrorNow) (call : Call) (e : Entry) (r : RepoFault) → IsToWrite (mirror_in m) 0 call e → by_repository m.repository.revisions e ≡ Some r → IsCause m 0 call (of_repository r)
by_table m call e r p h = Due (ByTable (OfRepository r) (p.may_refuse ∙ ap (option_map OfRepository) h) refl)

judged_cause : (m : MirrorNow) (call : Call) (e : Entry) (r : RepoFault) → IsToWrite (mirror_in m) 0 call e → core.IsDue r (by_repository m.repository.revisions e) → IsCause m 0 call (of_repository r)
judged_cause m call e repo.NoSuchRevision p h = by_table m call e repo.NoSuchRevision p h
judged_cause m call e (repo.BaseMismatch found) p h = by_table m call e (repo.BaseMismatch found) p h
judged_cause m call e repo.Full p h = by_table m call e repo.Full p h
judged_cause m call e (repo.Behind head) p h = by_table m call e (repo.Behind head) p h
judged_cause m call e (repo.Change f) p h = by_table m call e (repo.Change f) p h
judged_cause m call e repo.TooLong p h = by_table m call e repo.TooLong p h
judged_cause m call e repo.OutOfMemory p h = NoMemory refl

-- why an entry isn't made ready is why nothing has changed
store_cause : {D : Type 0} {G : Ghosts D} (old : RepoStore D G) (m : MirrorNow) (call : Call) (e : Entry) (x : StoreFault) → IsToWrite (mirror_in m) 0 call e → (HasFailed old → IsSome m.doubt) → Refuses old e (by_repository m.repository.revisions e) x → IsCause m 0 call (fault_of x)
store_cause old m call e (Repo r) p b h = judged_cause m call e r p h.1
store_cause old m call e (Log log.Failed) p b h = Broken refl (b h)
store_cause old m call e (Log log.LogFull) p b h = NoRoom refl
store_cause old m call e (Log log.OutOfMemory) p b h = NoMemory refl
store_cause old m call e (Log log.DeviceFailed) p b h = absurd h
store_cause old m call e (Log (log.Damaged n)) p b h = absurd h
store_cause old m call e (Log log.NoRepository) p b h = absurd h
store_cause old m call e (Log log.ThereAlready) p b h = absurd h

-- an entry isn't made ready: the mirror is as it was
pub not_staged : {D : Type 0} {G : Ghosts D} (old new : RepoStore D G) (h : Option ℕ) (call : Call) (e : Entry) (x : StoreFault) (f : SyncFault) (m : MirrorNow)
    → ((c : Image) → G.honest (disk_of old) → G.left_since (disk_of old) (G.clock (disk_of old)) c → G.may_leave (disk_of old) c)
    → StandsAt old h m → IsToWrite (mirror_with (revisions_of old) h) 0 call e → Stays old new × Refuses old e (by_repository (revisions_of old) e) x → f ≡ fault_of x → Moved old new h h call (Err f) m
not_staged old new h call e x f m only s p w same =
    unchanged old new h call f m only s
    (subst (λ y. IsCause m 0 call y) (sym same) (store_cause old m call e x (planned_at old h call e m s p) s.doubt.0 (subst (λ r. Refuses old e (by_repository r.revisions e) x) (sym s.repository) w.1)))
    w.0.disk w.0.repository w.0.working

no_doubt : (d : Option Entry) → (IsSome d → ⊥) → d ≡ None
no_doubt None h = refl
no_doubt (Some e) h = absurd (h refl)

leaves_as : {D : Type 0} {clock : D → ℕ} {left_since : D → ℕ → Image → Type 0} (old new : D) (P Q : Image → Type 0) → ((c : Image) → P c → Q c) → LeavesOnly clock left_since old new P → LeavesOnly clock left_since old new Q
leaves_as {clock} {left_since} old new P Q f l =
    record {
      later = l.later;
      each = λ c left. f c (l.each c left);
      before = λ t c le left. by t c (l.before t c le left);
    }
  where
    by : (t : ℕ) (c : Image) → left_since old t c ⊎ P c → left_since old t c ⊎ Q c
    by t c (inl x) = inl x
    by t c (inr x) = inr (f c x)

-- nothing is refused of a call whose entry was made ready
free_of : (m : MirrorNow) (call : Call) (e : Entry) → IsToWrite (mirror_in m) 0 call e → by_repository m.repository.revisions e ≡ None → refusal (mirror_in m) 0 call ≡ None
free_of m call e p h = p.may_refuse ∙ ap (option_map OfRepository) h

-- an entry is written: the call is accepted
pub written : {D : Type 0} {G : Ghosts D} (old mid new : RepoStore D G) (h k : Option ℕ) (seat : ℕ) (call : Call) (e : Entry) (ready : Staged) (m : MirrorNow)
    → StandsAt old h m → IsToWrite (mirror_with (revisions_of old) h) 0 call e → IsStaged e (by_repository (revisions_of old) e) old mid ready → IsTaken e mid new → seat ≡ 0 → k ≡ holder_after h seat call → Moved old new h k call (Ok given.Done) m
written {G} old mid new h k seat call e ready m s plan staged taken none_else holder =
    record {
      now = accepted m 0 call;
      steps = Accepted given.Done refl (record {
        free = free_of m call e p (subst (λ x. by_repository x.revisions e ≡ None) (sym s.repository) staged.taken);
        reply = done_by (mirror_in m) call (writes m.repository.revisions call e p.entry);
        working = inl (no_doubt m.doubt (λ x. staged.worked (s.doubt.1 x)));
        mirror = refl;
      });
      there = record {
        repository = after ∙ sym taken.made;
        holder_is = ap (λ x. holder_after x 0 call) s.holder_is ∙ sym (holder ∙ ap (λ x. holder_after h x call) none_else);
        doubt = (λ x. absurd (taken.works x), λ x. absurd (staged.worked (s.doubt.1 x)));
        images = λ honest image left. inl (subst (λ x. journal.Keeps x image) (sym after) (taken.durable (taken.honest.1 honest) image left));
      };
      images = λ honest. leaves_as (disk_of old) (disk_of new) (journal.IsBeforeOrAfter (repository_of mid) e) (λ c. Keeps m c ⊎ Keeps (accepted m 0 call) c) either
          (subst (λ x. LeavesOnly G.clock G.left_since x (disk_of new) (journal.IsBeforeOrAfter (repository_of mid) e)) staged.stays.disk (taken.any_moment (subst G.honest (sym staged.stays.disk) honest)));
    }
  where
    p : IsToWrite (mirror_in m) 0 call e
    p = planned_at old h call e m s plan

    before : m.repository ≡ repository_of mid
    before = s.repository ∙ sym staged.stays.repository

    after : repository_by m.repository call ≡ with_entry_in (repository_of mid) e
    after = ap (λ (x : Option Entry). option_map_or (with_entry_in m.repository) x m.repository) p.entry ∙ ap (λ x. with_entry_in x e) before

    either : (c : Image) → journal.IsBeforeOrAfter (repository_of mid) e c → Keeps m c ⊎ Keeps (accepted m 0 call) c
    either c (inl x) = inl (inl (subst (λ y. journal.Keeps y c) (sym before) x))
    either c (inr x) = inr (inl (subst (λ y. journal.Keeps y c) (sym after) x))

device_failed : (x : StoreFault) (f : SyncFault) → x ≡ Log log.DeviceFailed → f ≡ fault_of x → ◌≡◌ {A = Result Given SyncFault} (Err f) (Err (fault.Other refusal_is.DeviceFailed))
device_failed x f h same = ap Err (same ∙ ap fault_of h)

-- the device failed in the writing of an entry: it is in doubt
pub doubtful : {D : Type 0} {G : Ghosts D} (old mid new : RepoStore D G) (h : Option ℕ) (call : Call) (e : Entry) (ready : Staged) (x : StoreFault) (f : SyncFault) (m : MirrorNow)
    → StandsAt old h m → IsToWrite (mirror_with (revisions_of old) h) 0 call e → IsStaged e (by_repository (revisions_of old) e) old mid ready → IsBroken e mid new x → f ≡ fault_of x → Moved old new h h call (Err f) m
doubtful {G} old mid new h call e ready x f m s plan staged broken same =
    record {
      now = doubted m call;
      steps = Doubted (device_failed x f broken.fault same) (record {
        free = free_of m call e p (subst (λ x. by_repository x.revisions e ≡ None) (sym s.repository) staged.taken);
        entry = some;
        working = no_doubt m.doubt (λ x. staged.worked (s.doubt.1 x));
        mirror = refl;
      });
      there = record {
        repository = before ∙ sym broken.same;
        holder_is = s.holder_is;
        doubt = (λ x. some, λ x. broken.failed);
        images = λ honest image left. in_doubt image (broken.either (broken.honest.1 honest) image left);
      };
      images = λ honest. leaves_as (disk_of old) (disk_of new) (journal.IsBeforeOrAfter (repository_of mid) e) (λ c. Keeps m c ⊎ Keeps (doubted m call) c) (λ c x. inr (in_doubt c x))
          (subst (λ x. LeavesOnly G.clock G.left_since x (disk_of new) (journal.IsBeforeOrAfter (repository_of mid) e)) staged.stays.disk (broken.any_moment (subst G.honest (sym staged.stays.disk) honest)));
    }
  where
    p : IsToWrite (mirror_in m) 0 call e
    p = planned_at old h call e m s plan

    some : IsSome (entry_of m.repository.revisions call)
    some = subst (λ (x : Option Entry). IsSome x) (sym p.entry) refl

    before : m.repository ≡ repository_of mid
    before = s.repository ∙ sym staged.stays.repository

    in_doubt : (c : Image) → journal.IsBeforeOrAfter (repository_of mid) e c → Keeps (doubted m call) c
    in_doubt c (inl x) = inl (subst (λ y. journal.Keeps y c) (sym before) x)
    in_doubt c (inr x) = inr (subst (λ (y : Option Entry). MatchOption y ⊥ (λ z. journal.Keeps (with_entry_in m.repository z) c)) (sym p.entry) (subst (λ y. journal.Keeps (with_entry_in y e) c) (sym before) x))

-- a look is answered: the mirror is as it was
pub seen : {D : Type 0} {G : Ghosts D} (old : RepoStore D G) (h : Option ℕ) (call : Call) (k : Standing) (m : MirrorNow)
    → ((c : Image) → G.honest (disk_of old) → G.left_since (disk_of old) (G.clock (disk_of old)) c → G.may_leave (disk_of old) c)
    → StandsAt old h m → call ≡ Look → k ≡ standing_of (revisions_of old) → Moved old old h h call (Ok (given.Seen k)) m
seen {G} old h call k m only s l e =
    record {
      now = m;
      steps = subst (λ x. Steps m 0 x (Ok (given.Seen k)) m) (sym l) (Accepted (given.Seen k) refl (record { free = refl; reply = ap mirror_reply.Seen (e ∙ sym (ap (λ r. standing_of r.revisions) s.repository)); working = inr refl; mirror = refl }));
      there = s;
      images = λ honest. record {
        later = omega arith;
        each = λ c left. inl (s.images honest c (only c honest left));
        before = λ t c le left. inl left;
      };
    }

-- what is planned of a look
pub look_told : (m : Mirror) (seat : ℕ) (call : Call) (p : Planned) (k : Standing) → p ≡ Tell k → IsPlanned m seat call p → (call ≡ Look) × (k ≡ standing_of m.revisions)
look_told m seat call p k e h = subst (λ y. IsPlanned m seat call y) e h

-- no accepted call is answered by a refusal
not_granted : (m : Mirror) (call : Call) (why : Refusal) → Refused why ≡ granted m call → ⊥
not_granted m (Commit n set props) why h = cc
not_granted m (Init url uuid props) why h = cc
not_granted m (TakeLock t) why h = cc
not_granted m (StealLock t) why h = cc
not_granted m ReleaseLock why h = cc
not_granted m (SetCopying n) why h = cc
not_granted m (PutProps n props) why h = cc
not_granted m (SetMerged n) why h = cc
not_granted m ClearCopying why h = cc
not_granted m Look why h = cc

pub refused_why : (m : Mirror) (call : Call) (why : Refusal) (o : Option Refusal) → Refused why ≡ option_map_or Refused o (granted m call) → o ≡ Some why
refused_why m call why None h = absurd (not_granted m call why h)
refused_why m call why (Some w) h = cc

refused_cause : (m : MirrorNow) (seat : ℕ) (call : Call) (f : SyncFault) → IsRefused (mirror_in m) seat call f (mirror_in m) → IsCause m seat call f
refused_cause m seat call f r = Due (ByTable r.why (refused_why (mirror_in m) call r.why (refusal (mirror_in m) seat call) r.step.replied) r.told)

pub answer_cause : (m : MirrorNow) (seat : ℕ) (call : Call) (f : SyncFault) → AnswersErr (mirror_in m) seat call f (mirror_in m) → IsCause m seat call f
answer_cause m seat call fault.NotInitialised r = refused_cause m seat call fault.NotInitialised r
answer_cause m seat call fault.AlreadyInitialised r = refused_cause m seat call fault.AlreadyInitialised r
answer_cause m seat call fault.NotEmpty r = refused_cause m seat call fault.NotEmpty r
answer_cause m seat call (fault.LockHeld t) r = refused_cause m seat call (fault.LockHeld t) r
answer_cause m seat call (fault.HolderRunning t) r = refused_cause m seat call (fault.HolderRunning t) r
answer_cause m seat call fault.WrongMaster r = refused_cause m seat call fault.WrongMaster r
answer_cause m seat call (fault.Inconsistent a b c) r = refused_cause m seat call (fault.Inconsistent a b c) r
answer_cause m seat call (fault.NotYetCopied k) r = refused_cause m seat call (fault.NotYetCopied k) r
answer_cause m seat call fault.NotHolder r = refused_cause m seat call fault.NotHolder r
answer_cause m seat call (fault.MasterFailed t) r = refused_cause m seat call (fault.MasterFailed t) r
answer_cause m seat call fault.OutOfTurn r = refused_cause m seat call fault.OutOfTurn r
answer_cause m seat call (fault.Other x) r = refused_cause m seat call (fault.Other x) r
answer_cause m seat call fault.OutOfMemory r = NoMemory refl

-- a call isn't planned: the mirror is as it was
pub not_planned : {D : Type 0} {G : Ghosts D} (old : RepoStore D G) (h : Option ℕ) (call : Call) (f : SyncFault) (m : MirrorNow)
    → ((c : Image) → G.honest (disk_of old) → G.left_since (disk_of old) (G.clock (disk_of old)) c → G.may_leave (disk_of old) c)
    → StandsAt old h m → AnswersErr (mirror_with (revisions_of old) h) 0 call f (mirror_with (revisions_of old) h) → Moved old old h h call (Err f) m
not_planned old h call f m only s r =
    unchanged old old h call f m only s
    (answer_cause m 0 call f (subst (λ x. AnswersErr (mirror_with x.revisions m.holder) 0 call f (mirror_with x.revisions m.holder)) (sym s.repository) (subst (λ k. AnswersErr (mirror_with (revisions_of old) k) 0 call f (mirror_with (revisions_of old) k)) (sym s.holder_is) r)))
    refl refl (λ x. x, λ x. x)

-- the same, as a port says it
pub as_moves : {D : Type 0} {G : Ghosts D} (old new : AloneMirror D G) (call : Call) (result : Result Given SyncFault) (m : MirrorNow) → Moved old.store new.store old.holder new.holder call result m
    → Moves (λ k. StandsAt new.store new.holder k) (λ (a : AloneMirror D G). G.clock (disk_of a.store)) (λ (a : AloneMirror D G) t image. G.left_since (disk_of a.store) t image) (G.honest (disk_of old.store)) old new m 0 call result
as_moves old new call result m x =
    record {
      now = x.now;
      steps = x.steps;
      there = x.there;
      images = λ honest. record { later = (x.images honest).later; each = (x.images honest).each; before = (x.images honest).before };
    }

-- what keeps a mirror with no entry in doubt keeps its repository, and nothing else does
pub sure : (m : MirrorNow) (c : Image) → m.doubt ≡ None → Keeps m c → journal.Keeps m.repository c
sure m c e (inl x) = x
sure m c e (inr x) = absurd (subst (λ (y : Option Entry). MatchOption y ⊥ (λ z. journal.Keeps (with_entry_in m.repository z) c)) e x)
