-- Steps of a shared mirror.
use Rattle.std.proofs.Common.{◌≡◌, ◌⊎◌, inl, inr, ◌↔◌, ◌≤◌, ◌+◌, ◌++◌, [], ◌∷◌, ℕ, List, map, length, true, false, Option, Some, None, IsSome, Ok, Err, refl, sym, ap, subst, ◌∙◌, arith, length-append}
use Rattle.std.specs.Prelude.{is_some, IsTrue, slice_get}
use Rattle.std.specs.Option.{option_map, option_map_or}
use Rattle.std.proofs.lemmas.List.{length-set, map-append}
use Rattle.fleet_disk.specs.Image.{Image}
use Rattle.fleet_disk.specs.Rules.{LeavesOnly}
use Rattle.fleet_disk.specs.declared.disk.Disk.{Ghosts}
use Rattle.fleet_disk.proofs.Moments.{started, weaker}
use Rattle.gate_log.specs.declared.fault.LogFault.TheVariants as log
use Rattle.node_base.specs.declared.refusal.Refusal.TheVariants as refusal_is
use Rattle.dump_load.specs.Trees.{effect_tree}
use Rattle.repo_core.specs.Repository.{Repository, Revision, trees_of, root_alone}
use Rattle.repo_core.specs.Entries.{with_entry, with_entry_in}
use Rattle.repo_core.specs.Refusals.{by_repository}
use Rattle.repo_core.specs.Refusals as core
use Rattle.repo_core.specs.declared.entry.Entry.{Entry}
use Rattle.repo_core.specs.declared.entry.Entry.TheVariants.{Revised, Mapped}
use Rattle.repo_core.specs.declared.fault.RepoFault.{RepoFault}
use Rattle.repo_core.specs.declared.fault.RepoFault.TheVariants as repo
use Rattle.repo_store.specs.Changes.{IsTaken, IsBroken, Refuses}
use Rattle.repo_store.specs.Journal.{Keeps, KeepsOr, IsBeforeOrAfter}
use Rattle.repo_store.specs.Words.{disk_of, doubt_of, repository_of, revisions_of, HasFailed, IsKept}
use Rattle.repo_store.specs.declared.fault.StoreFault.{StoreFault}
use Rattle.repo_store.specs.declared.fault.StoreFault.TheVariants.{Repo, Log}
use Rattle.repo_store.specs.declared.store.RepoStore.{RepoStore}
use Rattle.store_share.specs.Book.{is_stuck, store_of}
use Rattle.store_share.specs.Changes.{IsAccepted as IsTakenIn, IsLeft, IsBrokenOff, IsHidden as IsHiddenBy}
use Rattle.store_share.specs.declared.book.MasterBook.{MasterBook}
use Rattle.store_share.proofs.Showing.{revision_as}
use Rattle.sync_core.specs.Faults.{of_repository}
use Rattle.sync_core.specs.Mirror.{Mirror, Call, Init, TakeLock, StealLock, ReleaseLock, SetCopying, Commit, PutProps, SetMerged, ClearCopying, Look, OfRepository, refusal, standing_of, entry_of, granted, holder_after}
use Rattle.sync_core.specs.Mirror as mirror_reply
use Rattle.sync_core.specs.Copies.{call_in}
use Rattle.sync_core.specs.Plain.{AnswersErr}
use Rattle.sync_core.specs.Plans.{IsToWrite}
use Rattle.sync_core.specs.declared.kept_call.KeptCall.{KeptCall}
use Rattle.sync_core.specs.declared.fault.SyncFault.{SyncFault}
use Rattle.sync_core.specs.declared.fault.SyncFault.TheVariants as fault
use Rattle.sync_core.specs.declared.reply.Reply.TheVariants as given
use Rattle.sync_core.specs.declared.standing.Standing.{Standing}
use Rattle.sync_job.specs.Fronts.{replayed}
use Rattle.sync_job.specs.Mirrors.{MirrorNow, mirror_in, repository_by, ByTable, IsCause, Due, NoMemory, NoRoom, Broken, Accepted, Doubted, Unchanged}
use Rattle.sync_job.specs.StoreFaults.{fault_of}
use Rattle.sync_job.proofs.Stores.{answer_cause}
use Rattle.mirror_share.specs.Steps.{now_at, KeepsNow, StepsShown, Shown, Hides}

-- a store's entry in doubt tells whether its device failed
abbrev pub Doubts : {D : Type 0} {G : Ghosts D} → RepoStore D G → Type 0
Doubts store = HasFailed store ↔ IsTrue (is_some (doubt_of store))

no_doubt : (d : Option Entry) → (IsTrue (is_some d) → ⊥) → d ≡ None
no_doubt None h = refl
no_doubt (Some e) h = absurd (h refl)

abbrev mirror_now : Repository → Option ℕ → Option Entry → MirrorNow
mirror_now r h d = record { repository = r; holder = h; doubt = d }

now_same : (r s : Repository) (h k : Option ℕ) (d c : Option Entry) → r ≡ s → h ≡ k → d ≡ c → mirror_now r h d ≡ mirror_now s k c
now_same r s h k d c a b e = ap (λ x. mirror_now x h d) a ∙ ap (λ x. mirror_now s x d) b ∙ ap (λ x. mirror_now s k x) e

pub by_call : (r : Repository) (call : Call) (e : Entry) → entry_of r.revisions call ≡ Some e → repository_by r call ≡ with_entry_in r e
by_call r call e k = ap (λ (x : Option Entry). option_map_or (with_entry_in r) x r) k

done_by : (m : Mirror) (call : Call) (e : Entry) → entry_of m.revisions call ≡ Some e → mirror_reply.Done ≡ granted m call
done_by m (Commit n set props) e k = refl
done_by m (Init url uuid props) e k = refl
done_by m (TakeLock t) e k = refl
done_by m (StealLock t) e k = refl
done_by m ReleaseLock e k = refl
done_by m (SetCopying n) e k = refl
done_by m (PutProps n props) e k = refl
done_by m (SetMerged n) e k = refl
done_by m ClearCopying e k = refl
done_by m Look e k = absurd (cc)

-- nothing is refused of a call whose entry nothing is due of
pub free_of : (m : MirrorNow) (seat : ℕ) (call : Call) (e : Entry) → IsToWrite (mirror_in m) seat call e → by_repository m.repository.revisions e ≡ None → refusal (mirror_in m) seat call ≡ None
free_of m seat call e p h = p.may_refuse ∙ ap (option_map OfRepository) h

has_entry : (x : Option Entry) (e : Entry) → x ≡ Some e → IsSome x
has_entry x e k = subst (λ (y : Option Entry). IsSome y) (sym k) refl

-- what the repository refuses of the entry is refused of the call
by_table : (m : MirrorNow) (seat : ℕ) (call : Call) (e : Entry) (r : RepoFault) → IsToWrite (mirror_in m) seat call e → by_repository m.repository.revisions e ≡ Some r → IsCause m seat call (of_repository r)
by_table m seat call e r p h = Due (ByTable (OfRepository r) (p.may_refuse ∙ ap (option_map OfRepository) h) refl)

judged_cause : (m : MirrorNow) (seat : ℕ) (call : Call) (e : Entry) (r : RepoFault) → IsToWrite (mirror_in m) seat call e → core.IsDue r (by_repository m.repository.revisions e) → IsCause m seat call (of_repository r)
judged_cause m seat call e repo.NoSuchRevision p h = by_table m seat call e repo.NoSuchRevision p h
judged_cause m seat call e (repo.BaseMismatch found) p h = by_table m seat call e (repo.BaseMismatch found) p h
judged_cause m seat call e repo.Full p h = by_table m seat call e repo.Full p h
judged_cause m seat call e (repo.Behind head) p h = by_table m seat call e (repo.Behind head) p h
judged_cause m seat call e (repo.Change f) p h = by_table m seat call e (repo.Change f) p h
judged_cause m seat call e repo.TooLong p h = by_table m seat call e repo.TooLong p h
judged_cause m seat call e repo.OutOfMemory p h = NoMemory refl

-- why a store doesn't take an entry is why nothing has changed
store_cause : {D : Type 0} {G : Ghosts D} (old : RepoStore D G) (m : MirrorNow) (seat : ℕ) (call : Call) (e : Entry) (x : StoreFault) → IsToWrite (mirror_in m) seat call e → (HasFailed old → IsSome m.doubt) → Refuses old e (by_repository m.repository.revisions e) x → IsCause m seat call (fault_of x)
store_cause old m seat call e (Repo r) p b h = judged_cause m seat call e r p h.1
store_cause old m seat call e (Log log.Failed) p b h = Broken refl (b h)
store_cause old m seat call e (Log log.LogFull) p b h = NoRoom refl
store_cause old m seat call e (Log log.OutOfMemory) p b h = NoMemory refl
store_cause old m seat call e (Log log.DeviceFailed) p b h = absurd h
store_cause old m seat call e (Log (log.Damaged n)) p b h = absurd h
store_cause old m seat call e (Log log.NoRepository) p b h = absurd h
store_cause old m seat call e (Log log.ThereAlready) p b h = absurd h

module _ {L D : Type 0} {r : _} {g : Ghosts D} where
  -- an entry is written and shown: the call is accepted
  pub accepted_step : (entry : Entry) (old new : MasterBook L D r g) (h k : Option ℕ) (seat : ℕ) (call : Call)
      → IsToWrite (mirror_in (now_at (store_of old) h)) seat call entry → Doubts (store_of old) → Doubts (store_of new)
      → IsTakenIn entry (by_repository (revisions_of (store_of old)) entry) old new → k ≡ holder_after h seat call
      → StepsShown false (now_at (store_of old) h) seat call (Ok given.Done) (is_stuck new) (now_at (store_of new) k)
  accepted_step entry old new h k seat call p d e a holder =
      Shown refl a.works
      (Accepted given.Done refl (record {
        free = free_of (now_at (store_of old) h) seat call entry p a.taken;
        reply = done_by (mirror_in (now_at (store_of old) h)) call entry p.entry;
        working = inl nothing;
        mirror = now_same (repository_of (store_of new)) (repository_by (repository_of (store_of old)) call) k (holder_after h seat call) (doubt_of (store_of new)) (doubt_of (store_of old))
            (a.store.made ∙ sym (by_call (repository_of (store_of old)) call entry p.entry)) holder (no_doubt (doubt_of (store_of new)) (λ s. a.store.works (e.1 s)) ∙ sym nothing);
      }))
    where
      nothing : doubt_of (store_of old) ≡ None
      nothing = no_doubt (doubt_of (store_of old)) (λ s. a.store.worked (d.1 s))

  -- the device failed: the call's entry is in doubt
  pub broken_step : (entry : Entry) (old new : MasterBook L D r g) (h : Option ℕ) (seat : ℕ) (call : Call) (x : StoreFault) (f : SyncFault)
      → IsToWrite (mirror_in (now_at (store_of old) h)) seat call entry → Doubts (store_of old)
      → IsBrokenOff entry (by_repository (revisions_of (store_of old)) entry) old new x → f ≡ fault_of x
      → StepsShown false (now_at (store_of old) h) seat call (Err f) (is_stuck new) (now_at (store_of new) h)
  broken_step entry old new h seat call x f p d b same =
      Shown refl b.stuck
      (Doubted (ap Err (same ∙ ap fault_of b.store.fault)) (record {
        free = free_of (now_at (store_of old) h) seat call entry p b.taken;
        entry = has_entry (entry_of (revisions_of (store_of old)) call) entry p.entry;
        working = no_doubt (doubt_of (store_of old)) (λ s. b.store.worked (d.1 s));
        mirror = now_same (repository_of (store_of new)) (repository_of (store_of old)) h h (doubt_of (store_of new)) (entry_of (revisions_of (store_of old)) call) b.store.same refl (b.store.doubt ∙ sym p.entry);
      }))

  -- the entry isn't taken: nothing has changed
  pub left_step : (entry : Entry) (old new : MasterBook L D r g) (h : Option ℕ) (seat : ℕ) (call : Call) (x : StoreFault) (f : SyncFault)
      → is_stuck old ≡ false → IsToWrite (mirror_in (now_at (store_of old) h)) seat call entry → Doubts (store_of old)
      → IsLeft entry (by_repository (revisions_of (store_of old)) entry) old new x → f ≡ fault_of x
      → StepsShown false (now_at (store_of old) h) seat call (Err f) (is_stuck new) (now_at (store_of new) h)
  left_step entry old new h seat call x f works p d l same =
      Shown refl (l.stuck ∙ works)
      (Unchanged f refl (subst (λ y. IsCause (now_at (store_of old) h) seat call y) (sym same) (cause l.why))
      (now_same (repository_of (store_of new)) (repository_of (store_of old)) h h (doubt_of (store_of new)) (doubt_of (store_of old)) l.stays.repository refl l.stays.doubt))
    where
      cause : ((is_stuck old ≡ true) × (x ≡ Log log.Failed)) ⊎ ((is_stuck old ≡ false) × Refuses (store_of old) entry (by_repository (revisions_of (store_of old)) entry) x) → IsCause (now_at (store_of old) h) seat call (fault_of x)
      cause (inl w) = absurd (cc)
      cause (inr w) = store_cause (store_of old) (now_at (store_of old) h) seat call entry x p d.0 w.1

  -- its cell refused its box: the call stands
  pub hidden_step : (entry : Entry) (old new : MasterBook L D r g) (h : Option ℕ) (seat : ℕ) (call : Call) (x : StoreFault)
      → IsToWrite (mirror_in (now_at (store_of old) h)) seat call entry → Doubts (store_of old) → Doubts (store_of new)
      → IsHiddenBy entry (by_repository (revisions_of (store_of old)) entry) old new x
      → StepsShown false (now_at (store_of old) h) seat call (Err (fault.Other refusal_is.Failed)) (is_stuck new) (now_at (store_of new) h)
  hidden_step entry old new h seat call x p d e a =
      Hides refl a.stuck refl
      (record {
        free = free_of (now_at (store_of old) h) seat call entry p a.taken;
        entry = has_entry (entry_of (revisions_of (store_of old)) call) entry p.entry;
        working = no_doubt (doubt_of (store_of old)) (λ s. a.store.worked (d.1 s));
        mirror = now_same (repository_of (store_of new)) (repository_by (repository_of (store_of old)) call) h h (doubt_of (store_of new)) None
            (a.store.made ∙ sym (by_call (repository_of (store_of old)) call entry p.entry)) refl (no_doubt (doubt_of (store_of new)) (λ s. a.store.works (e.1 s)));
      })

-- of what taking an entry may come to at a refusal, a cell that is stuck then tells which it was
pub must_hide : {L D : Type 0} {r : _} {g : Ghosts D} (entry : Entry) (due : Option RepoFault) (old new : MasterBook L D r g) (x : StoreFault)
    → IsLeft entry due old new x ⊎ IsBrokenOff entry due old new x ⊎ IsHiddenBy entry due old new x → is_stuck old ≡ false → is_stuck new ≡ true → IsHiddenBy entry due old new x
must_hide entry due old new x (inl l) works stuck = let n : true ≡ false = sym stuck ∙ l.stuck ∙ works in absurd (cc)
must_hide entry due old new x (inr (inl b)) works stuck = let n : true ≡ false = sym stuck ∙ b.stuck in absurd (cc)
must_hide entry due old new x (inr (inr h)) works stuck = h

-- want of memory before anything is done
pub no_memory : (m : MirrorNow) (seat : ℕ) (call : Call) (f : SyncFault) → f ≡ fault.OutOfMemory → StepsShown false m seat call (Err f) false m
no_memory m seat call f e = Shown refl refl (Unchanged f refl (NoMemory e) refl)

-- a call isn't planned
pub refused_step : (m : MirrorNow) (seat : ℕ) (call : Call) (f : SyncFault) → AnswersErr (mirror_in m) seat call f (mirror_in m) → StepsShown false m seat call (Err f) false m
refused_step m seat call f r = Shown refl refl (Unchanged f refl (answer_cause m seat call f r) refl)

-- a look is answered
pub seen_step : (m : MirrorNow) (seat : ℕ) (call : Call) (s : Standing) → (call ≡ Look) × (s ≡ standing_of m.repository.revisions) → StepsShown false m seat call (Ok (given.Seen s)) false m
seen_step m seat call s h =
    subst (λ x. StepsShown false m seat x (Ok (given.Seen s)) false m) (sym h.0)
    (Shown refl refl (Accepted (given.Seen s) refl (record { free = refl; reply = ap mirror_reply.Seen h.1; working = inr refl; mirror = refl })))

-- what a stop leaves

keeps_sure : (r : Repository) (d : Option Entry) (c : Image) → d ≡ None → Keeps r c → KeepsOr r d c
keeps_sure r d c e k = subst (λ x. KeepsOr r x c) (sym e) k

module _ {D : Type 0} {G : Ghosts D} where
  abbrev pub Moment : RepoStore D G → Option ℕ → RepoStore D G → Option ℕ → Type 0
  Moment old h new k = G.honest (disk_of old) → LeavesOnly G.clock G.left_since (disk_of old) (disk_of new) (λ c. KeepsNow (now_at old h) c ⊎ KeepsNow (now_at new k) c)

  pub taken_moments : (entry : Entry) (old new : RepoStore D G) (h k : Option ℕ) → Doubts old → Doubts new → IsTaken entry old new → Moment old h new k
  taken_moments entry old new h k d e t honest = weaker G.clock G.left_since (disk_of old) (disk_of new) (IsBeforeOrAfter (repository_of old) entry) _ (t.any_moment honest) either
    where
      either : (c : Image) → IsBeforeOrAfter (repository_of old) entry c → KeepsNow (now_at old h) c ⊎ KeepsNow (now_at new k) c
      either c (inl x) = inl (keeps_sure (repository_of old) (doubt_of old) c (no_doubt (doubt_of old) (λ s. t.worked (d.1 s))) x)
      either c (inr x) = inr (keeps_sure (repository_of new) (doubt_of new) c (no_doubt (doubt_of new) (λ s. t.works (e.1 s))) (subst (λ y. Keeps y c) (sym t.made) x))

  pub broken_moments : (entry : Entry) (old new : RepoStore D G) (h k : Option ℕ) (x : StoreFault) → IsBroken entry old new x → Moment old h new k
  broken_moments entry old new h k x b honest = weaker G.clock G.left_since (disk_of old) (disk_of new) (IsBeforeOrAfter (repository_of old) entry) _ (b.any_moment honest)
      (λ c y. inr (subst (λ o. KeepsOr (repository_of new) o c) (sym b.doubt) ∣ subst (λ z. IsBeforeOrAfter z entry c) (sym b.same) y ∣₁))

  -- the disk is as it was
  pub same_moments : (old new : RepoStore D G) (h k : Option ℕ)
      → ((c : Image) → G.honest (disk_of old) → G.left_since (disk_of old) (G.clock (disk_of old)) c → G.may_leave (disk_of old) c)
      → IsKept old → disk_of new ≡ disk_of old → Moment old h new k
  same_moments old new h k only kept same honest =
      subst (λ d. LeavesOnly G.clock G.left_since (disk_of old) d (λ c. KeepsNow (now_at old h) c ⊎ KeepsNow (now_at new k) c)) (sym same)
      (started G.clock G.left_since (disk_of old) _ (λ c left. inl (kept honest c (only c honest left))))

-- an entry more, and a call more

more_revisions : (x : List Revision) (e : Entry) → length x ≤ length (with_entry x e)
more_revisions x (Revised n set props) = omega (arith, length-append x (revision_as (effect_tree (trees_of x) set) props ∷ []))
more_revisions x (Mapped n props) = omega (arith, length-set x n (revision_as (option_map_or (λ (y : Revision). y.tree) (slice_get x n) root_alone) props))

-- the head doesn't fall
pub head_later : (r s : Repository) (e : Entry) (before after : ℕ) → s ≡ with_entry_in r e → before + 1 ≡ length r.revisions → after + 1 ≡ length s.revisions → before ≤ after
head_later r s e before after made b a = omega (arith, b, a, ap (λ (x : Repository). length x.revisions) made, more_revisions r.revisions e)

replayed_more : (r : Repository) (xs : List Call) (y : Call) → replayed r (xs ++ y ∷ []) ≡ repository_by (replayed r xs) y
replayed_more r [] y = refl
replayed_more r (x ∷ xs) y = replayed_more (repository_by r x) xs y

-- the kept calls with one more
pub replay_more : (first before after : Repository) (kept : List KeptCall) (one : KeptCall) (call : Call) (e : Entry)
    → before ≡ replayed first (map call_in kept) → call_in one ≡ call → entry_of before.revisions call ≡ Some e → after ≡ with_entry_in before e
    → after ≡ replayed first (map call_in (kept ++ one ∷ []))
replay_more first before after kept one call e old is made new =
    new
    ∙ sym (by_call before call e made)
    ∙ ap (λ c. repository_by before c) (sym is)
    ∙ ap (λ r. repository_by r (call_in one)) old
    ∙ sym (replayed_more first (map call_in kept) (call_in one))
    ∙ ap (λ cs. replayed first cs) (sym (map-append call_in kept (one ∷ [])))

pub kept_more : (kept : List KeptCall) (one : KeptCall) (call : Call) → call_in one ≡ call → map call_in (kept ++ one ∷ []) ≡ map call_in kept ++ call ∷ []
kept_more kept one call is = map-append call_in kept (one ∷ []) ∙ ap (λ c. map call_in kept ++ c ∷ []) is
