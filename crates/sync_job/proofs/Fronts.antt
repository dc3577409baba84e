-- What a run's calls leave of a mirror.
use Rattle.std.proofs.Common.{◌≡◌, ◌⊎◌, ◌↔◌, inl, inr, ℕ, ◌≤◌, Bool, true, false, List, [], ◌∷◌, ◌++◌, map, Option, Some, None, is_some, IsSome, MatchOption, Result, Ok, Err, IfOk, if◌then◌else◌, refl, sym, ap, subst, ◌∙◌, arith}
use Rattle.std.proofs.lemmas.List.{append-nil, append_assoc}
use Rattle.std.specs.Option.{option_map_or}
use Rattle.fleet_disk.specs.Image.{Image}
use Rattle.fleet_disk.specs.Rules.{LeavesOnly}
use Rattle.repo_core.specs.Repository.{Repository}
use Rattle.repo_core.specs.declared.entry.Entry.{Entry}
use Rattle.repo_core.specs.Entries.{with_entry_in}
use Rattle.repo_store.specs.Journal as journal
use Rattle.node_base.specs.declared.refusal.Refusal.TheVariants as device
use Rattle.dump_load.specs.declared.fault.ChangeFault.TheVariants as change
use Rattle.repo_core.specs.declared.fault.RepoFault.{RepoFault}
use Rattle.repo_core.specs.declared.fault.RepoFault.TheVariants as repo
use Rattle.sync_core.specs.Mirror.{Call, Init, TakeLock, StealLock, ReleaseLock, SetCopying, Commit, PutProps, SetMerged, ClearCopying, Look, Refusal, Missed, OfRepository, entry_of}
use Rattle.sync_core.specs.Plain.{IsTold}
use Rattle.sync_core.specs.Dues.{IsNeedFault}
use Rattle.sync_core.specs.Faults.{of_repository}
use Rattle.sync_core.specs.Deeds.{Deed, Calls, AsksIdentity, AsksLatest, Fetches, FetchesProps, Ends}
use Rattle.sync_core.specs.declared.need.Need.{Need}
use Rattle.sync_core.specs.declared.need.Need.TheVariants as need
use Rattle.sync_core.specs.declared.fault.SyncFault.{SyncFault}
use Rattle.sync_core.specs.declared.fault.SyncFault.TheVariants as fault
use Rattle.sync_core.specs.declared.answer.Answer.{Answer}
use Rattle.sync_core.specs.declared.answer.Answer.TheVariants as answer
use Rattle.sync_core.specs.declared.standing.Standing.{Standing}
use Rattle.sync_core.specs.declared.reply.Reply.{Reply as Given}
use Rattle.sync_core.specs.declared.reply.Reply.TheVariants as given
use Rattle.sync_job.specs.declared.report.Told.{Told}
use Rattle.sync_core.specs.Copies.{outcome_of}
use Rattle.sync_job.specs.Kept.{IsWrite, IsLook}
use Rattle.sync_job.specs.Said.{Spoken, Says, NoTree, Tells, told_by, IsRound, Done, Lacking, Treeless, Acted}
use Rattle.sync_job.specs.Mirrors.{MirrorNow, repository_by, Keeps, IsFit, accepted, ByTable, IsCause, Due, NoMemory, NoRoom, Broken, IsAccepted, IsDoubted, Steps, Accepted, Doubted, Unchanged, Moves, Stays}
use Rattle.sync_job.specs.Fronts.{EndsKeepAll, replayed, HasCome, Working, Doubtful, KeepsFront, Went, WentAt, Moving, is_device, IsHeard, accepted_by, counted_by, accepted_in, counted_in}
use Rattle.sync_job.proofs.Stores.{sure}

pub replayed-append : (r : Repository) (xs ys : List Call) → replayed r (xs ++ ys) ≡ replayed (replayed r xs) ys
replayed-append r [] ys = refl
replayed-append r (x ∷ xs) ys = replayed-append (repository_by r x) xs ys

-- the repository with the entry in doubt is the one after its call
in_doubt : (r : Repository) (call : Call) (c : Image) → MatchOption (entry_of r.revisions call) ⊥ (λ e. journal.Keeps (with_entry_in r e) c) → journal.Keeps (repository_by r call) c
in_doubt r call c k = by (entry_of r.revisions call) k
  where
    by : (e : Option Entry) → MatchOption e ⊥ (λ y. journal.Keeps (with_entry_in r y) c) → journal.Keeps (option_map_or (with_entry_in r) e r) c
    by None x = absurd x
    by (Some e) x = x

pub no_some : {A B : Type 0} (o : Option A) → o ≡ None → IsSome o → B
no_some None e s = absurd (let f : false ≡ true = s in cc)
no_some (Some x) e s = absurd (cc)

nothing_before : (m : MirrorNow) (c : Image) (r : Repository) (done : List Call) → r ≡ replayed m.repository done → (IsSome m.doubt → done ≡ []) → MatchOption m.doubt ⊥ (λ e. journal.Keeps (with_entry_in r e) c) → MatchOption m.doubt ⊥ (λ e. journal.Keeps (with_entry_in m.repository e) c)
nothing_before m c r done e h k = by m.doubt h k
  where
    by : (d : Option Entry) → (IsSome d → done ≡ []) → MatchOption d ⊥ (λ x. journal.Keeps (with_entry_in r x) c) → MatchOption d ⊥ (λ x. journal.Keeps (with_entry_in m.repository x) c)
    by None g x = x
    by (Some d) g x = subst (λ y. journal.Keeps (with_entry_in y d) c) (e ∙ ap (λ xs. replayed m.repository xs) (g refl)) x

-- a mirror that is in doubt accepts nothing, and nothing counts
pub none_counts : (m now : MirrorNow) (accepted counted : List Call) → IsSome m.doubt → HasCome m now accepted counted → (accepted ≡ []) × (counted ≡ []) × (now.doubt ≡ m.doubt) × (now.repository ≡ m.repository)
none_counts m now accepted counted d (Working same none all at) = (none d, all ∙ none d, same, at ∙ ap (λ xs. replayed m.repository xs) (none d))
none_counts m now accepted counted d (Doubtful call working in_it is all at) = no_some m.doubt working d

-- one after the other
pub come_on : (m mid now : MirrorNow) (d1 c1 d2 c2 : List Call) → HasCome m mid d1 c1 → HasCome mid now d2 c2 → HasCome m now (d1 ++ d2) (c1 ++ c2)
come_on m mid now d1 c1 d2 c2 (Working same none all at) (Working same2 none2 all2 at2) =
    Working (same2 ∙ same) (λ d. ap (λ xs. xs ++ d2) (none d) ∙ none2 (subst (λ (x : Option Entry). IsSome x) (sym same) d)) (ap (λ xs. xs ++ c2) all ∙ ap (λ xs. d1 ++ xs) all2)
    (at2 ∙ ap (λ r. replayed r d2) at ∙ sym (replayed-append m.repository d1 d2))
come_on m mid now d1 c1 d2 c2 (Working same none all at) (Doubtful call working2 in2 is2 all2 at2) =
    Doubtful call (sym same ∙ working2) in2 is2 (ap (λ xs. xs ++ c2) all ∙ ap (λ xs. d1 ++ xs) all2 ∙ sym (append_assoc d1 d2 (call ∷ [])))
    (at2 ∙ ap (λ r. replayed r d2) at ∙ sym (replayed-append m.repository d1 d2))
come_on m mid now d1 c1 d2 c2 (Doubtful call working in_it is all at) second =
    let n = none_counts mid now d2 c2 in_it second in
    let same : d1 ++ d2 ≡ d1 = ap (λ xs. d1 ++ xs) n.0 ∙ append-nil d1 in
    Doubtful call working (subst (λ (x : Option Entry). IsSome x) (sym n.2) in_it)
    (n.2 ∙ is ∙ ap (λ r. entry_of r.revisions call) (sym n.3))
    (ap (λ xs. c1 ++ xs) n.1 ∙ append-nil c1 ∙ all ∙ ap (λ xs. xs ++ call ∷ []) (sym same))
    (n.3 ∙ at ∙ ap (λ xs. replayed m.repository xs) (sym same))

-- a front of the first calls is one of all
pub front_of_first : (m : MirrorNow) (c1 c2 : List Call) (c : Image) → KeepsFront m c1 c → KeepsFront m (c1 ++ c2) c
front_of_first m c1 c2 c (inl k) = inl k
front_of_first m c1 c2 c (inr f) = inr (f.0, f.1 ++ c2, sym (append_assoc f.0 f.1 c2) ∙ ap (λ xs. xs ++ c2) f.2, f.3)

-- a front of the second calls, behind the first ones
pub front_of_second : (m mid now : MirrorNow) (d1 c1 d2 c2 : List Call) (c : Image) → HasCome m mid d1 c1 → HasCome mid now d2 c2 → KeepsFront mid c2 c → KeepsFront m (c1 ++ c2) c
front_of_second m mid now d1 c1 d2 c2 c (Working same none all at) second (inl (inl k)) = inr (d1, c2, ap (λ xs. xs ++ c2) (sym all), subst (λ r. journal.Keeps r c) at k)
front_of_second m mid now d1 c1 d2 c2 c (Working same none all at) second (inl (inr k)) =
    inl (inr (nothing_before m c mid.repository d1 at none (subst (λ (x : Option Entry). MatchOption x ⊥ (λ e. journal.Keeps (with_entry_in mid.repository e) c)) same k)))
front_of_second m mid now d1 c1 d2 c2 c (Working same none all at) second (inr f) =
    inr (d1 ++ f.0, f.1, append_assoc d1 f.0 f.1 ∙ ap (λ xs. d1 ++ xs) f.2 ∙ ap (λ xs. xs ++ c2) (sym all), subst (λ r. journal.Keeps r c) (ap (λ r. replayed r f.0) at ∙ sym (replayed-append m.repository d1 f.0)) f.3)
front_of_second m mid now d1 c1 d2 c2 c (Doubtful call working in_it is all at) second (inl (inl k)) =
    inr (d1, (call ∷ []) ++ c2, sym (append_assoc d1 (call ∷ []) c2) ∙ ap (λ xs. xs ++ c2) (sym all), subst (λ r. journal.Keeps r c) at k)
front_of_second m mid now d1 c1 d2 c2 c (Doubtful call working in_it is all at) second (inl (inr k)) =
    inr (
      d1 ++ call ∷ [],
      c2,
      ap (λ xs. xs ++ c2) (sym all),
      subst (λ r. journal.Keeps r c) (ap (λ r. repository_by r call) at ∙ sym (replayed-append m.repository d1 (call ∷ [])))
          (in_doubt mid.repository call c (subst (λ (x : Option Entry). MatchOption x ⊥ (λ e. journal.Keeps (with_entry_in mid.repository e) c)) is k)),
    )
front_of_second m mid now d1 c1 d2 c2 c (Doubtful call working in_it is all at) second (inr f) =
    let n = none_counts mid now d2 c2 in_it second in
    inr (d1, (call ∷ []) ++ c2, sym (append_assoc d1 (call ∷ []) c2) ∙ ap (λ xs. xs ++ c2) (sym all), subst (λ r. journal.Keeps r c) (ap (λ xs. replayed mid.repository xs) (no_front f.0 f.1 c2 f.2 n.1) ∙ at) f.3)
  where
    no_front : (front rest all2 : List Call) → front ++ rest ≡ all2 → all2 ≡ [] → front ≡ []
    no_front [] rest all2 e n = refl
    no_front (x ∷ xs) rest all2 e n = absurd (cc)

-- two runs of calls, one after the other, are one
pub went_on : {D : Type 0} {clock : D → ℕ} {left_since : D → ℕ → Image → Type 0} (stands_mid stands_new : MirrorNow → Type 0) (honest_old honest_mid : Type 0) (old mid new : D) (m : MirrorNow) (d1 c1 d2 c2 : List Call)
    → (honest_old → honest_mid) → Went stands_mid clock left_since honest_old old mid m d1 c1 → ((k : MirrorNow) → stands_mid k → Went stands_new clock left_since honest_mid mid new k d2 c2)
    → Went stands_new clock left_since honest_old old new m (d1 ++ d2) (c1 ++ c2)
went_on {clock} {left_since} stands_mid stands_new honest_old honest_mid old mid new m d1 c1 d2 c2 to first rest =
    record {
      now = second.now;
      come = come_on m first.now second.now d1 c1 d2 c2 first.come second.come;
      there = second.there;
      images = λ honest.
          let a = first.images honest in
          let b = second.images (to honest) in
          record {
            later = omega (arith, a.later, b.later);
            each = λ c left. by_each honest c (b.before (clock old) c a.later left);
            before = λ t c le left. by_before honest t c le (b.before t c (let p : clock old ≤ clock mid = a.later in omega (arith, le, p)) left);
          };
      left = λ honest c l. second.left (to honest) c l;
    }
  where
    second : Went stands_new clock left_since honest_mid mid new first.now d2 c2
    second = rest first.now first.there

    by_each : honest_old → (c : Image) → left_since mid (clock old) c ⊎ KeepsFront first.now c2 c → KeepsFront m (c1 ++ c2) c
    by_each honest c (inl x) = front_of_first m c1 c2 c ((first.images honest).each c x)
    by_each honest c (inr x) = front_of_second m first.now second.now d1 c1 d2 c2 c first.come second.come x

    earlier : (t : ℕ) (c : Image) → left_since old t c ⊎ KeepsFront m c1 c → left_since old t c ⊎ KeepsFront m (c1 ++ c2) c
    earlier t c (inl x) = inl x
    earlier t c (inr x) = inr (front_of_first m c1 c2 c x)

    by_before : honest_old → (t : ℕ) (c : Image) → t ≤ clock old → left_since mid t c ⊎ KeepsFront first.now c2 c → left_since old t c ⊎ KeepsFront m (c1 ++ c2) c
    by_before honest t c le (inl x) = earlier t c ((first.images honest).before t c le x)
    by_before honest t c le (inr x) = inr (front_of_second m first.now second.now d1 c1 d2 c2 c first.come second.come x)

-- what stands keeps a front of all
pub of_now : (m now : MirrorNow) (d cs : List Call) (c : Image) → HasCome m now d cs → Keeps now c → KeepsFront m cs c
of_now m now d cs c come k = subst (λ xs. KeepsFront m xs c) (append-nil cs) (front_of_second m now now d cs [] [] c come (Working refl (λ _. refl) refl refl) (inl k))

pub went_by : {D : Type 0} {clock : D → ℕ} {left_since : D → ℕ → Image → Type 0} (stands : MirrorNow → Type 0) (honest : Type 0) (old new : D) (m now : MirrorNow) (d cs : List Call)
    → HasCome m now d cs → stands now → (honest → LeavesOnly clock left_since old new (λ c. Keeps m c ⊎ Keeps now c)) → (honest → (c : Image) → left_since new (clock new) c → Keeps now c) → Went stands clock left_since honest old new m d cs
went_by {clock} {left_since} stands honest old new m now d cs come there images left =
    record {
      now = now;
      come = come;
      there = there;
      images = λ h. let l = images h in record { later = l.later; each = λ c x. either c (l.each c x); before = λ t c le x. since t c (l.before t c le x) };
      left = left;
    }
  where
    either : (c : Image) → Keeps m c ⊎ Keeps now c → KeepsFront m cs c
    either c (inl x) = inl x
    either c (inr x) = of_now m now d cs c come x

    since : (t : ℕ) (c : Image) → left_since old t c ⊎ (Keeps m c ⊎ Keeps now c) → left_since old t c ⊎ KeepsFront m cs c
    since t c (inl x) = inl x
    since t c (inr x) = inr (either c x)

-- the law of a port: what a stop leaves now keeps what stands
abbrev pub IsKeptNow : {N : Type 0} → (N → MirrorNow → Type 0) → (N → ℕ) → (N → ℕ → Image → Type 0) → (N → Type 0) → Type 0
IsKeptNow {N} stands clock left_since honest = (port : N) (m : MirrorNow) (image : Image) → honest port → stands port m → left_since port (clock port) image → Keeps m image

-- nothing was done
pub stayed : {N : Type 0} (stands : N → MirrorNow → Type 0) (clock : N → ℕ) (left_since : N → ℕ → Image → Type 0) (honest : N → Type 0) (old new : N) → IsKeptNow stands clock left_since honest → new ≡ old → WentAt stands clock left_since honest old new [] []
stayed stands clock left_since honest old new law e =
    subst (λ n. WentAt stands clock left_since honest old n [] []) (sym e) (
      (λ h. h, λ h. h),
      λ m s. went_by (stands old) (honest old) old old m m [] [] (Working refl (λ _. refl) refl refl) s
          (λ h. record { later = omega arith; each = λ c l. inl (law old m c h s l); before = λ t c le l. inl l })
          (λ h c l. law old m c h s l),
    )

-- a tree was asked for
pub tree_asked : {N : Type 0} (stands : N → MirrorNow → Type 0) (clock : N → ℕ) (left_since : N → ℕ → Image → Type 0) (honest : N → Type 0) (old new : N) → IsKeptNow stands clock left_since honest → honest old ↔ honest new → ((m : MirrorNow) → stands old m → Stays (stands new) clock left_since (honest old) old new m) → WentAt stands clock left_since honest old new [] []
tree_asked stands clock left_since honest old new law h stays = (
  h,
  λ m s.
      let x = stays m s in
      went_by (stands new) (honest old) old new m m [] [] (Working refl (λ _. refl) refl refl) x.there
      (λ k. record { later = (x.images k).later; each = λ c l. inl ((x.images k).each c l); before = λ t c le l. widen m t c ((x.images k).before t c le l) })
      (λ k c l. law new m c (h.0 k) x.there l),
)
  where
    widen : (m : MirrorNow) (t : ℕ) (c : Image) → left_since old t c ⊎ Keeps m c → left_since old t c ⊎ (Keeps m c ⊎ Keeps m c)
    widen m t c (inl x) = inl x
    widen m t c (inr x) = inr (inl x)

-- a refusal by the table, or one that changes nothing, isn't 31
same_as : (f k : SyncFault) → f ≡ k → is_device k ≡ false → is_device f ≡ false
same_as f k e h = ap is_device e ∙ h

need_isnt : (need : Need) (text : Option (List ℕ)) (f : SyncFault) → IsNeedFault need text f → is_device f ≡ false
need_isnt need.NotInitialised text f h = same_as f _ h refl
need_isnt need.AlreadyInitialised text f h = same_as f _ h refl
need_isnt need.NotEmpty text f h = same_as f _ h refl
need_isnt need.LockHeld text f h = same_as f (fault.LockHeld h.0) h.1 refl
need_isnt need.HolderRunning text f h = same_as f (fault.HolderRunning h.0) h.1 refl
need_isnt need.NotHolder text f h = same_as f _ h refl
need_isnt need.OutOfTurn text f h = same_as f _ h refl

repo_isnt : (e : RepoFault) → is_device (of_repository e) ≡ false
repo_isnt repo.NoSuchRevision = refl
repo_isnt (repo.BaseMismatch v) = refl
repo_isnt repo.Full = refl
repo_isnt (repo.Behind n) = refl
repo_isnt (repo.Change change.BadHeader) = refl
repo_isnt (repo.Change change.TooLong) = refl
repo_isnt (repo.Change change.BadPath) = refl
repo_isnt (repo.Change change.NoSuchPath) = refl
repo_isnt (repo.Change change.PathThere) = refl
repo_isnt (repo.Change change.NotDir) = refl
repo_isnt (repo.Change change.NoSource) = refl
repo_isnt (repo.Change change.OutOfOrder) = refl
repo_isnt (repo.Change change.WrongNumber) = refl
repo_isnt (repo.Change change.KindMismatch) = refl
repo_isnt (repo.Change change.OutOfMemory) = refl
repo_isnt repo.TooLong = refl
repo_isnt repo.OutOfMemory = refl

told_isnt : (text : Option (List ℕ)) (why : Refusal) (f : SyncFault) → IsTold text why f → is_device f ≡ false
told_isnt text (Missed n) f h = need_isnt n text f h
told_isnt text (OfRepository e) f h = same_as f (of_repository e) h (repo_isnt e)

pub cause_isnt : (m : MirrorNow) (seat : ℕ) (call : Call) (f : SyncFault) → IsCause m seat call f → is_device f ≡ false
cause_isnt m seat call f (Due (ByTable why e t)) = told_isnt _ why f t
cause_isnt m seat call f (NoMemory h) = same_as f _ h refl
cause_isnt m seat call f (NoRoom h) = same_as f _ h refl
cause_isnt m seat call f (Broken h d) = same_as f _ h refl

abbrev pub CameBy : MirrorNow → MirrorNow → Call → Answer → Type 0
CameBy m now call a = HasCome m now (accepted_by (Calls call) (outcome_of a)) (counted_by (Calls call) (outcome_of a))

uncounted : (m now : MirrorNow) (call : Call) (f : SyncFault) → now ≡ m → is_device f ≡ false → CameBy m now call (answer.Refused f)
uncounted m now call f same isnt =
    Working (ap (λ x. x.doubt) same) (λ _. refl) (ap (λ (b : Bool). if b then call ∷ [] else []) isnt) (ap (λ x. x.repository) same)

refused_came : (m now : MirrorNow) (call : Call) (f : SyncFault) (a : Answer) → now ≡ m → is_device f ≡ false → IsHeard (Err f) a → CameBy m now call a
refused_came m now call f a same isnt (inl e) = subst (λ x. CameBy m now call x) (sym e) (uncounted m now call f same isnt)
refused_came m now call f a same isnt (inr (inl e)) = subst (λ x. CameBy m now call x) (sym e.0) (uncounted m now call fault.OutOfMemory same refl)
refused_came m now call f a same isnt (inr (inr e)) = absurd (let b : false ≡ true = sym isnt ∙ e.1 in cc)

-- such a call doesn't count
pub refused_counts : (call : Call) (f : SyncFault) (a : Answer) → is_device f ≡ false → IsHeard (Err f) a → counted_by (Calls call) (outcome_of a) ≡ []
refused_counts call f a isnt (inl e) = ap (λ x. counted_by (Calls call) (outcome_of x)) e ∙ ap (λ (b : Bool). if b then call ∷ [] else []) isnt
refused_counts call f a isnt (inr (inl e)) = ap (λ x. counted_by (Calls call) (outcome_of x)) e.0
refused_counts call f a isnt (inr (inr e)) = absurd (let b : false ≡ true = sym isnt ∙ e.1 in cc)

-- where nothing counts the mirror stays
pub come_stays : (m : MirrorNow) (xs ys : List Call) → xs ≡ [] → ys ≡ [] → HasCome m m xs ys
come_stays m xs ys e f = Working refl (λ _. e) (f ∙ sym e) (ap (λ zs. replayed m.repository zs) (sym e))

look_stays : (m : MirrorNow) (seat : ℕ) (call : Call) → IsLook call → accepted m seat call ≡ m
look_stays m seat (Init url uuid props) h = absurd h
look_stays m seat (TakeLock t) h = absurd h
look_stays m seat (StealLock t) h = absurd h
look_stays m seat ReleaseLock h = absurd h
look_stays m seat (SetCopying n) h = absurd h
look_stays m seat (Commit n set props) h = absurd h
look_stays m seat (PutProps n props) h = absurd h
look_stays m seat (SetMerged n) h = absurd h
look_stays m seat ClearCopying h = absurd h
look_stays m seat Look h = refl

done_came : (m : MirrorNow) (seat : ℕ) (call : Call) → IsWrite call → (m.doubt ≡ None) ⊎ (call ≡ Look) → CameBy m (accepted m seat call) call answer.Done
done_came m seat call w (inl e) = Working refl (λ d. no_some m.doubt e d) refl refl
done_came m seat call w (inr e) = absurd (subst IsWrite e w)

seen_came : (m now : MirrorNow) (call : Call) (s : Standing) (a : Answer) → now ≡ m → (a ≡ answer.Seen s) ⊎ (a ≡ answer.Refused fault.OutOfMemory) → CameBy m now call a
seen_came m now call s a same (inl e) = subst (λ x. CameBy m now call x) (sym e) (Working (ap (λ x. x.doubt) same) (λ _. refl) refl (ap (λ x. x.repository) same))
seen_came m now call s a same (inr e) = subst (λ x. CameBy m now call x) (sym e) (uncounted m now call fault.OutOfMemory same refl)

accepted_came : (m now : MirrorNow) (seat : ℕ) (call : Call) (r : Given) (a : Answer) → IsAccepted m seat call r now → IsFit call r → IsHeard (Ok r) a → CameBy m now call a
accepted_came m now seat call given.Done a p fits h = subst (λ x. CameBy m now call x) (sym h) (subst (λ x. CameBy m x call answer.Done) (sym p.mirror) (done_came m seat call fits p.working))
accepted_came m now seat call (given.Seen s) a p fits h = seen_came m now call s a (p.mirror ∙ look_stays m seat call fits) h

doubt_came : (m now : MirrorNow) (seat : ℕ) (call : Call) (a : Answer) → IsDoubted m seat call now → a ≡ answer.Refused (fault.Other device.DeviceFailed) → CameBy m now call a
doubt_came m now seat call a p e =
    subst (λ x. CameBy m now call x) (sym e)
    (Doubtful call p.working (subst (λ x. IsSome x.doubt) (sym p.mirror) p.entry) (subst (λ x. x.doubt ≡ entry_of x.repository.revisions call) (sym p.mirror) refl) refl (ap (λ x. x.repository) p.mirror))

doubted_came : (m now : MirrorNow) (seat : ℕ) (call : Call) (a : Answer) → IsDoubted m seat call now → IsHeard (Err (fault.Other device.DeviceFailed)) a → CameBy m now call a
doubted_came m now seat call a p (inl e) = doubt_came m now seat call a p e
doubted_came m now seat call a p (inr (inl e)) = absurd (let b : true ≡ false = e.1 in cc)
doubted_came m now seat call a p (inr (inr e)) = doubt_came m now seat call a p e.0

pub came : (m now : MirrorNow) (seat : ℕ) (call : Call) (result : Result Given SyncFault) (a : Answer) → Steps m seat call result now → IfOk result (IsFit call) → IsHeard result a → CameBy m now call a
came m now seat call result a (Accepted r e p) fits h = accepted_came m now seat call r a p (subst (λ (x : Result Given SyncFault). IfOk x (IsFit call)) e fits) (subst (λ x. IsHeard x a) e h)
came m now seat call result a (Doubted e p) fits h = doubted_came m now seat call a p (subst (λ x. IsHeard x a) e h)
came m now seat call result a (Unchanged f e cause same) fits h = refused_came m now call f a same (cause_isnt m seat call f cause) (subst (λ x. IsHeard x a) e h)

-- a call was made
pub stepped : {N : Type 0} (stands : N → MirrorNow → Type 0) (clock : N → ℕ) (left_since : N → ℕ → Image → Type 0) (honest : N → Type 0) (old new : N) (seat : ℕ) (call : Call) (result : Result Given SyncFault) (a : Answer)
    → IsKeptNow stands clock left_since honest → honest old ↔ honest new → ((m : MirrorNow) → stands old m → Moves (stands new) clock left_since (honest old) old new m seat call result) → IfOk result (IsFit call) → IsHeard result a
    → WentAt stands clock left_since honest old new (accepted_by (Calls call) (outcome_of a)) (counted_by (Calls call) (outcome_of a))
stepped stands clock left_since honest old new seat call result a law h moves fits heard = (
  h,
  λ m s.
      let x = moves m s in
      went_by (stands new) (honest old) old new m x.now (accepted_by (Calls call) (outcome_of a)) (counted_by (Calls call) (outcome_of a)) (came m x.now seat call result a x.steps fits heard) x.there x.images (λ k c l. law new x.now c (h.0 k) x.there l),
)

-- one after the other
pub went_at : {N : Type 0} (stands : N → MirrorNow → Type 0) (clock : N → ℕ) (left_since : N → ℕ → Image → Type 0) (honest : N → Type 0) (old mid new : N) (d1 c1 d2 c2 : List Call)
    → WentAt stands clock left_since honest old mid d1 c1 → WentAt stands clock left_since honest mid new d2 c2 → WentAt stands clock left_since honest old new (d1 ++ d2) (c1 ++ c2)
went_at stands clock left_since honest old mid new d1 c1 d2 c2 a b =
    ((λ x. b.0.0 (a.0.0 x), λ x. a.0.1 (b.0.1 x)), λ m s. went_on (stands mid) (stands new) (honest old) (honest mid) old mid new m d1 c1 d2 c2 a.0.0 (a.1 m s) (λ k t. b.1 k t))

accepted_append : (xs ys : List Spoken) → accepted_in (xs ++ ys) ≡ accepted_in xs ++ accepted_in ys
accepted_append [] ys = refl
accepted_append (Says d o ∷ xs) ys = ap (λ zs. accepted_by d o ++ zs) (accepted_append xs ys) ∙ sym (append_assoc (accepted_by d o) (accepted_in xs) (accepted_in ys))
accepted_append (NoTree n o ∷ xs) ys = accepted_append xs ys
accepted_append (Tells t ∷ xs) ys = accepted_append xs ys

counted_append : (xs ys : List Spoken) → counted_in (xs ++ ys) ≡ counted_in xs ++ counted_in ys
counted_append [] ys = refl
counted_append (Says d o ∷ xs) ys = ap (λ zs. counted_by d o ++ zs) (counted_append xs ys) ∙ sym (append_assoc (counted_by d o) (counted_in xs) (counted_in ys))
counted_append (NoTree n o ∷ xs) ys = counted_append xs ys
counted_append (Tells t ∷ xs) ys = counted_append xs ys

tells_accept : (ts : List Told) → accepted_in (map Tells ts) ≡ []
tells_accept [] = refl
tells_accept (t ∷ ts) = tells_accept ts

tells_count : (ts : List Told) → counted_in (map Tells ts) ≡ []
tells_count [] = refl
tells_count (t ∷ ts) = tells_count ts

-- a deed that wasn't done is no call that counts
lacking : (d : Deed) → (accepted_by d (outcome_of (answer.Refused fault.OutOfMemory)) ≡ []) × (counted_by d (outcome_of (answer.Refused fault.OutOfMemory)) ≡ [])
lacking (Calls call) = (refl, refl)
lacking AsksIdentity = (refl, refl)
lacking AsksLatest = (refl, refl)
lacking (Fetches n) = (refl, refl)
lacking (FetchesProps n) = (refl, refl)
lacking Ends = (refl, refl)

-- what a round says counts as its deed and its answer do
round_counts : (d : Deed) (a : Answer) (more : List Spoken) → IsRound d a more → (accepted_by d (outcome_of a) ≡ accepted_in more) × (counted_by d (outcome_of a) ≡ counted_in more)
round_counts d a more (Done fits e) = (
  sym (ap accepted_in e ∙ ap (λ xs. accepted_by d (outcome_of a) ++ xs) (tells_accept (told_by d a)) ∙ append-nil (accepted_by d (outcome_of a))),
  sym (ap counted_in e ∙ ap (λ xs. counted_by d (outcome_of a) ++ xs) (tells_count (told_by d a)) ∙ append-nil (counted_by d (outcome_of a))),
)
round_counts d a more (Lacking e n due) =
    (ap (λ x. accepted_by d (outcome_of x)) e ∙ (lacking d).0 ∙ sym (ap accepted_in n), ap (λ x. counted_by d (outcome_of x)) e ∙ (lacking d).1 ∙ sym (ap counted_in n))
round_counts d a more (Treeless of n f e r m) =
    (ap (λ x. accepted_by x (outcome_of a)) e ∙ sym (ap accepted_in m), ap (λ x. counted_by x (outcome_of a)) e ∙ sym (ap counted_in m))

-- a run goes on by a deed
pub moving_on : {N : Type 0} {B : Type 0} (stands : N → MirrorNow → Type 0) (clock : N → ℕ) (left_since : N → ℕ → Image → Type 0) (honest : N → Type 0) (old mid new : N) (said_old said_mid said_new : List Spoken) (heard_mid heard_new : B → List Told → Type 0) (d : Deed) (a : Answer)
    → Moving said_old said_mid (WentAt stands clock left_since honest old mid) → Acted d a said_mid said_new heard_mid heard_new → WentAt stands clock left_since honest mid new (accepted_by d (outcome_of a)) (counted_by d (outcome_of a))
    → Moving said_old said_new (WentAt stands clock left_since honest old new)
moving_on stands clock left_since honest old mid new said_old said_mid said_new heard_mid heard_new d a x y w =
    let r = round_counts d a y.more y.round in
    record {
      more = x.more ++ y.more;
      adds = y.adds ∙ ap (λ xs. xs ++ y.more) x.adds ∙ append_assoc said_old x.more y.more;
      went = subst (λ xs. WentAt stands clock left_since honest old new xs (counted_in (x.more ++ y.more))) (sym (accepted_append x.more y.more))
          (subst (λ xs. WentAt stands clock left_since honest old new (accepted_in x.more ++ accepted_in y.more) xs) (sym (counted_append x.more y.more))
          (went_at stands clock left_since honest old mid new (accepted_in x.more) (counted_in x.more) (accepted_in y.more) (counted_in y.more) x.went
          (subst (λ xs. WentAt stands clock left_since honest mid new xs (counted_in y.more)) r.0 (subst (λ xs. WentAt stands clock left_since honest mid new (accepted_by d (outcome_of a)) xs) r.1 w))));
    }

-- so it goes on, whatever is said of its calls
pub moving_by : {B : Type 0} (said_old said_mid said_new : List Spoken) (heard_mid heard_new : B → List Told → Type 0) (d : Deed) (a : Answer) (Before After : List Call → List Call → Type 0)
    → Moving said_old said_mid Before → Acted d a said_mid said_new heard_mid heard_new → ((d1 c1 : List Call) → Before d1 c1 → After (d1 ++ accepted_by d (outcome_of a)) (c1 ++ counted_by d (outcome_of a)))
    → Moving said_old said_new After
moving_by said_old said_mid said_new heard_mid heard_new d a Before After x y w =
    let r = round_counts d a y.more y.round in
    record {
      more = x.more ++ y.more;
      adds = y.adds ∙ ap (λ xs. xs ++ y.more) x.adds ∙ append_assoc said_old x.more y.more;
      went = subst (λ xs. After xs (counted_in (x.more ++ y.more))) (sym (accepted_append x.more y.more))
          (subst (λ xs. After (accepted_in x.more ++ accepted_in y.more) xs) (sym (counted_append x.more y.more))
          (subst (λ xs. After (accepted_in x.more ++ xs) (counted_in x.more ++ counted_in y.more)) r.0
          (subst (λ xs. After (accepted_in x.more ++ accepted_by d (outcome_of a)) (counted_in x.more ++ xs)) r.1 (w (accepted_in x.more) (counted_in x.more) x.went))));
    }

-- a run begins
pub moving_begins : {N : Type 0} (stands : N → MirrorNow → Type 0) (clock : N → ℕ) (left_since : N → ℕ → Image → Type 0) (honest : N → Type 0) (old : N) (said : List Spoken) → IsKeptNow stands clock left_since honest → Moving said said (WentAt stands clock left_since honest old old)
moving_begins stands clock left_since honest old said law = record { more = []; adds = sym (append-nil said); went = stayed stands clock left_since honest old old law refl }

-- the same with nothing before and behind it
pub stepped_from : {N : Type 0} (stands : N → MirrorNow → Type 0) (clock : N → ℕ) (left_since : N → ℕ → Image → Type 0) (honest : N → Type 0) (first old new last : N) (seat : ℕ) (call : Call) (result : Result Given SyncFault) (a : Answer)
    → IsKeptNow stands clock left_since honest → old ≡ first → last ≡ new → honest old ↔ honest new → ((m : MirrorNow) → stands old m → Moves (stands new) clock left_since (honest old) old new m seat call result) → IfOk result (IsFit call) → IsHeard result a
    → WentAt stands clock left_since honest first last (accepted_by (Calls call) (outcome_of a)) (counted_by (Calls call) (outcome_of a))
stepped_from stands clock left_since honest first old new last seat call result a law e f h moves fits heard =
    subst (λ x. WentAt stands clock left_since honest x last (accepted_by (Calls call) (outcome_of a)) (counted_by (Calls call) (outcome_of a))) e
    (subst (λ x. WentAt stands clock left_since honest old x (accepted_by (Calls call) (outcome_of a)) (counted_by (Calls call) (outcome_of a))) (sym f)
    (stepped stands clock left_since honest old new seat call result a law h moves fits heard))

pub not_some : {A : Type 0} (o : Option A) → is_some o ≡ false → o ≡ None
not_some None e = refl
not_some (Some x) e = absurd (cc)

pub ends_keep_all : EndsKeepAll
ends_keep_all m now d cs c e (Working same none all at) k = inl (subst (λ r. journal.Keeps r c) at (sure now c (same ∙ e) k))
ends_keep_all m now d cs c e (Doubtful call working in_it is all at) (inl k) = inl (subst (λ r. journal.Keeps r c) at k)
ends_keep_all m now d cs c e (Doubtful call working in_it is all at) (inr k) =
    inr (subst (λ r. journal.Keeps r c) (ap (λ r. repository_by r call) at ∙ sym (replayed-append m.repository d (call ∷ [])) ∙ ap (λ xs. replayed m.repository xs) (sym all))
    (in_doubt now.repository call c (subst (λ (x : Option Entry). MatchOption x ⊥ (λ y. journal.Keeps (with_entry_in now.repository y) c)) is k)))
