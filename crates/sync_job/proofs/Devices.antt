-- Where a mirror in a store is answered 31 and 32.
use Rattle.std.proofs.Common.{◌≡◌, ◌↔◌, ◌<◌, ◌+◌, ◌^◌, length, Some, inl, inr, ℕ, ◌≤◌, ◌==◌, ◌||◌, Bool, false, List, [], ◌∷◌, ◌++◌, Option, Result, Ok, Err, IfErr, refl, sym, ap, subst, ◌∙◌, arith}
use Rattle.std.proofs.lemmas.Bool.{true≢false}
use Rattle.std.specs.List.{AllByRecursion}
use Rattle.std.specs.FinMap as finite
use Rattle.fleet_disk.specs.Rules.{Rose}
use Rattle.fleet_disk.specs.declared.disk.Disk.{Ghosts}
use Rattle.gate_log.specs.Log.{size_of}
use Rattle.gate_log.specs.declared.fault.LogFault.TheVariants as log
use Rattle.node_base.specs.declared.refusal.Refusal.TheVariants as refusal
use Rattle.dump_load.specs.declared.fault.ChangeFault.{ChangeFault}
use Rattle.dump_load.specs.declared.fault.ChangeFault.TheVariants as change
use Rattle.repo_core.specs.Repository.{props_at}
use Rattle.repo_core.specs.declared.entry.Entry.{Entry}
use Rattle.repo_core.specs.declared.fault.RepoFault.{RepoFault}
use Rattle.repo_core.specs.declared.fault.RepoFault.TheVariants as repo
use Rattle.repo_store.proofs.Going.{rose_on}
use Rattle.repo_store.specs.Changes.{Stays, Refuses, IsStaged, IsTaken, IsBroken}
use Rattle.repo_store.specs.Journal.{spelling}
use Rattle.repo_store.specs.Words.{disk_of, log_of, revisions_of, HasFailed}
use Rattle.repo_store.specs.declared.fault.StoreFault.{StoreFault}
use Rattle.repo_store.specs.declared.fault.StoreFault.TheVariants.{Repo, Log}
use Rattle.repo_store.specs.declared.staged.Staged.{Staged}
use Rattle.repo_store.specs.declared.store.RepoStore.{RepoStore}
use Rattle.sync_core.specs.Copies.{number_in}
use Rattle.sync_core.specs.Dues.{IsNeedFault}
use Rattle.sync_core.specs.Faults.{of_changes, of_repository}
use Rattle.sync_core.specs.Mirror.{Mirror, Call, entry_of, Refusal, Missed, OfRepository}
use Rattle.sync_core.specs.Names.{lock_name}
use Rattle.sync_core.specs.Plain.{AnswersErr, IsTold}
use Rattle.sync_core.specs.declared.need.Need.{Need}
use Rattle.sync_core.specs.declared.need.Need.TheVariants as need
use Rattle.sync_core.specs.declared.fault.SyncFault.{SyncFault}
use Rattle.sync_core.specs.declared.fault.SyncFault.TheVariants as fault
use Rattle.sync_core.specs.declared.reply.Reply.{Reply as Given}
use Rattle.sync_job.specs.Alone.{StandsAt, IsFull, IsStep, store_of, holder_of}
use Rattle.sync_job.specs.Asked.{Asked, asked_as}
use Rattle.sync_job.specs.Devices.{FailsSince, HasFailedSince, IsCaused, WasAsked}
use Rattle.sync_job.specs.Leading.{IsMirrorStep}
use Rattle.sync_job.specs.Mirrors.{MirrorNow}
use Rattle.sync_job.specs.Questions.{LeadsBy}
use Rattle.sync_job.specs.StoreFaults.{fault_of}
use Rattle.sync_job.specs.declared.alone.AloneMirror.{AloneMirror}
use Rattle.sync_job.proofs.Telling.{all_append}

-- the count

rose_more : (a b c : ℕ) → Rose a b → b ≤ c → Rose a c
rose_more a b c (inl h) le = inl (omega (arith, h, le))
rose_more a b c (inr h) le = inr (omega (arith, h, le))

-- what was so since an earlier store, and goes on so

if_err : {T E : Type 0} (r : Result T E) (P Q : E → Type 0) → ((e : E) → P e → Q e) → IfErr r P → IfErr r Q
if_err (Ok t) P Q f p = tt
if_err (Err e) P Q f p = f e p

all_weaker : {A : Type 0} (P Q : A → Type 0) → ((x : A) → P x → Q x) → (xs : List A) → AllByRecursion P xs → AllByRecursion Q xs
all_weaker P Q f [] a = tt
all_weaker P Q f (x ∷ xs) a = (f x a.0, all_weaker P Q f xs a.1)

caused_by : {D : Type 0} {G : Ghosts D} (a b c d : RepoStore D G) → (FailsSince a b → FailsSince c d) → (HasFailedSince a b → HasFailedSince c d) → (r : Result Given SyncFault) → IsCaused a b r → IsCaused c d r
caused_by a b c d f g r h =
    record {
      device = if_err r (λ e. number_in e ≡ 31 → FailsSince a b) (λ e. number_in e ≡ 31 → FailsSince c d) (λ e k n. f (k n)) h.device;
      failed = if_err r (λ e. number_in e ≡ 32 → HasFailedSince a b) (λ e. number_in e ≡ 32 → HasFailedSince c d) (λ e k n. g (k n)) h.failed;
    }

-- one after another
asked_on : {D : Type 0} {G : Ghosts D} (first mid now : RepoStore D G) (calls more : List Asked) → WasAsked mid first calls → WasAsked now mid more → WasAsked now first (calls ++ more)
asked_on {G} first mid now calls more a b =
    record {
      later = omega (arith, a.later, b.later);
      broken = λ h. goes_on (b.broken h);
      causes = all_append (λ x. IsCaused first now x.result) calls more
          (all_weaker (λ x. IsCaused first mid x.result) (λ x. IsCaused first now x.result) (λ x. caused_by first mid first now earlier before x.result) calls a.causes)
          (all_weaker (λ x. IsCaused mid now x.result) (λ x. IsCaused first now x.result) (λ x. caused_by mid now first now since goes_on x.result) more b.causes);
    }
  where
    earlier : FailsSince first mid → FailsSince first now
    earlier r = rose_more (G.failures (disk_of first)) (G.failures (disk_of mid)) (G.failures (disk_of now)) r b.later

    since : FailsSince mid now → FailsSince first now
    since r = rose_on (G.failures (disk_of first)) (G.failures (disk_of mid)) (G.failures (disk_of now)) a.later r

    before : HasFailedSince first mid → HasFailedSince first now
    before (inl h) = inl h
    before (inr r) = inr (rose_more (G.failures (disk_of first)) (G.failures (disk_of mid)) (G.failures (disk_of now)) r b.later)

    goes_on : HasFailedSince mid now → HasFailedSince first now
    goes_on (inl h) = before (a.broken h)
    goes_on (inr r) = inr (rose_on (G.failures (disk_of first)) (G.failures (disk_of mid)) (G.failures (disk_of now)) a.later r)

-- which refusals tell of a device or of a full journal

abbrev tells_device : SyncFault → Bool
tells_device f = (number_in f == 31) || ((number_in f == 32) || (number_in f == 36))

abbrev IsApart : SyncFault → Type 0
IsApart f = tells_device f ≡ false

not_31 : (f : SyncFault) → IsApart f → number_in f ≡ 31 → ⊥
not_31 f h e = true≢false (sym (ap (λ n. (n == 31) || ((n == 32) || (n == 36))) e) ∙ h)

not_32 : (f : SyncFault) → IsApart f → number_in f ≡ 32 → ⊥
not_32 f h e = true≢false (sym (ap (λ n. (n == 31) || ((n == 32) || (n == 36))) e) ∙ h)

not_36 : (f : SyncFault) → IsApart f → number_in f ≡ 36 → ⊥
not_36 f h e = true≢false (sym (ap (λ n. (n == 31) || ((n == 32) || (n == 36))) e) ∙ h)

change_apart : (c : ChangeFault) → IsApart (of_changes c)
change_apart change.BadHeader = refl
change_apart change.TooLong = refl
change_apart change.BadPath = refl
change_apart change.NoSuchPath = refl
change_apart change.PathThere = refl
change_apart change.NotDir = refl
change_apart change.NoSource = refl
change_apart change.OutOfOrder = refl
change_apart change.WrongNumber = refl
change_apart change.KindMismatch = refl
change_apart change.OutOfMemory = refl

repo_apart : (r : RepoFault) → IsApart (of_repository r)
repo_apart repo.NoSuchRevision = refl
repo_apart (repo.BaseMismatch found) = refl
repo_apart repo.Full = refl
repo_apart (repo.Behind head) = refl
repo_apart (repo.Change f) = change_apart f
repo_apart repo.TooLong = refl
repo_apart repo.OutOfMemory = refl

need_apart : (n : Need) (lock : Option (List ℕ)) (f : SyncFault) → IsNeedFault n lock f → IsApart f
need_apart need.NotInitialised lock f h = ap tells_device h
need_apart need.AlreadyInitialised lock f h = ap tells_device h
need_apart need.NotEmpty lock f h = ap tells_device h
need_apart need.LockHeld lock f h = ap tells_device h.1
need_apart need.HolderRunning lock f h = ap tells_device h.1
need_apart need.NotHolder lock f h = ap tells_device h
need_apart need.OutOfTurn lock f h = ap tells_device h

told_apart : (lock : Option (List ℕ)) (why : Refusal) (f : SyncFault) → IsTold lock why f → IsApart f
told_apart lock (Missed n) f h = need_apart n lock f h
told_apart lock (OfRepository r) f h = ap tells_device h ∙ repo_apart r

pub answer_apart : (m : Mirror) (seat : ℕ) (call : Call) (f : SyncFault) → AnswersErr m seat call f m → IsApart f
answer_apart m seat call fault.NotInitialised r = refl
answer_apart m seat call fault.AlreadyInitialised r = refl
answer_apart m seat call fault.NotEmpty r = refl
answer_apart m seat call (fault.LockHeld t) r = refl
answer_apart m seat call (fault.HolderRunning t) r = refl
answer_apart m seat call fault.WrongMaster r = refl
answer_apart m seat call (fault.Inconsistent a b c) r = refl
answer_apart m seat call (fault.NotYetCopied k) r = refl
answer_apart m seat call fault.NotHolder r = refl
answer_apart m seat call (fault.MasterFailed t) r = refl
answer_apart m seat call fault.OutOfTurn r = refl
answer_apart m seat call (fault.Other x) r = told_apart (finite.get (props_at m.revisions 0) lock_name) r.why (fault.Other x) r.told
answer_apart m seat call fault.OutOfMemory r = refl

-- the device isn't called

abbrev MayTell : {D : Type 0} {G : Ghosts D} → RepoStore D G → Result Given SyncFault → Type 0
MayTell store r = IfErr r (λ f. (number_in f ≡ 31 → ⊥) × (number_in f ≡ 32 → HasFailed store))

uncalled : {D : Type 0} {G : Ghosts D} (old new : RepoStore D G) (call : Call) (r : Result Given SyncFault) → disk_of new ≡ disk_of old → HasFailed new ↔ HasFailed old → MayTell old r → WasAsked new old (asked_as call r ∷ [])
uncalled {G} old new call r d w h =
    record {
      later = subst (λ x. G.failures (disk_of old) ≤ G.failures x) (sym d) (omega arith);
      broken = λ k. inl (w.0 k);
      causes = (
        record {
          device = if_err r (λ f. (number_in f ≡ 31 → ⊥) × (number_in f ≡ 32 → HasFailed old)) (λ f. number_in f ≡ 31 → FailsSince old new) (λ f k e. absurd (k.0 e)) h;
          failed = if_err r (λ f. (number_in f ≡ 31 → ⊥) × (number_in f ≡ 32 → HasFailed old)) (λ f. number_in f ≡ 32 → HasFailedSince old new) (λ f k e. inl (k.1 e)) h;
        },
        tt,
      );
    }

-- a look
pub asked_seen : {D : Type 0} {G : Ghosts D} (store : RepoStore D G) (call : Call) (r : Given) → WasAsked store store (asked_as call (Ok r) ∷ [])
asked_seen store call r = uncalled store store call (Ok r) refl (λ x. x, λ x. x) tt

-- a call isn't planned
pub asked_refused : {D : Type 0} {G : Ghosts D} (store : RepoStore D G) (m : Mirror) (seat : ℕ) (call : Call) (f : SyncFault) → AnswersErr m seat call f m → WasAsked store store (asked_as call (Err f) ∷ [])
asked_refused store m seat call f r =
    let a = answer_apart m seat call f r in
    uncalled store store call (Err f) refl (λ x. x, λ x. x) (λ e. not_31 f a e, λ e. absurd (not_32 f a e))

-- its entry isn't made ready

store_tells : {D : Type 0} {G : Ghosts D} (old : RepoStore D G) (e : Entry) (due : Option RepoFault) (x : StoreFault) → Refuses old e due x → (number_in (fault_of x) ≡ 31 → ⊥) × (number_in (fault_of x) ≡ 32 → HasFailed old)
store_tells old e due (Repo r) h = (λ k. not_31 (of_repository r) (repo_apart r) k, λ k. absurd (not_32 (of_repository r) (repo_apart r) k))
store_tells old e due (Log log.Failed) h = (λ k. true≢false (sym (ap (λ n. n == 31) k)), λ k. h)
store_tells old e due (Log log.LogFull) h = (λ k. true≢false (sym (ap (λ n. n == 31) k)), λ k. absurd (true≢false (sym (ap (λ n. n == 32) k))))
store_tells old e due (Log log.OutOfMemory) h = (λ k. true≢false (sym (ap (λ n. n == 31) k)), λ k. absurd (true≢false (sym (ap (λ n. n == 32) k))))
store_tells old e due (Log log.DeviceFailed) h = absurd h
store_tells old e due (Log (log.Damaged n)) h = absurd h
store_tells old e due (Log log.NoRepository) h = absurd h
store_tells old e due (Log log.ThereAlready) h = absurd h

pub asked_unstaged : {D : Type 0} {G : Ghosts D} (old new : RepoStore D G) (call : Call) (e : Entry) (due : Option RepoFault) (x : StoreFault) (f : SyncFault) → Stays old new × Refuses old e due x → f ≡ fault_of x → WasAsked new old (asked_as call (Err f) ∷ [])
asked_unstaged old new call e due x f h same = uncalled old new call (Err f) h.0.disk h.0.working (subst (λ y. (number_in y ≡ 31 → ⊥) × (number_in y ≡ 32 → HasFailed old)) (sym same) (store_tells old e due x h.1))

-- it is written
pub asked_written : {D : Type 0} {G : Ghosts D} (old mid new : RepoStore D G) (call : Call) (e f : Entry) (due : Option RepoFault) (ready : Staged) (r : Given) → IsStaged e due old mid ready → IsTaken f mid new → WasAsked new old (asked_as call (Ok r) ∷ [])
asked_written {G} old mid new call e f due ready r staged taken =
    record {
      later = subst (λ x. G.failures x ≤ G.failures (disk_of new)) staged.stays.disk taken.later;
      broken = λ h. absurd (taken.works h);
      causes = (record { device = tt; failed = tt }, tt);
    }

-- the device fails in its writing
pub asked_broken : {D : Type 0} {G : Ghosts D} (old mid new : RepoStore D G) (call : Call) (e g : Entry) (due : Option RepoFault) (ready : Staged) (x : StoreFault) (f : SyncFault) → IsStaged e due old mid ready → IsBroken g mid new x → WasAsked new old (asked_as call (Err f) ∷ [])
asked_broken {G} old mid new call e g due ready x f staged broken =
    let rose = subst (λ y. Rose (G.failures y) (G.failures (disk_of new))) staged.stays.disk broken.device in
    record {
      later = subst (λ y. G.failures y ≤ G.failures (disk_of new)) staged.stays.disk broken.later;
      broken = λ h. inr rose;
      causes = (record { device = λ k. rose; failed = λ k. inr rose }, tt);
    }

-- the list of a mirror's steps

-- it tells of the device what each step tells
pub was_asked : {D : Type 0} {G : Ghosts D} (first now : AloneMirror D G) (calls : List Asked) → LeadsBy IsStep first calls now → WasAsked (store_of now) (store_of first) calls
was_asked {G = G} first now [] e = subst (λ x. WasAsked (store_of x) (store_of first) []) (sym e) (record { later = omega arith; broken = λ h. inl h; causes = tt })
was_asked first now (x ∷ xs) h = asked_on (store_of first) (store_of h.0) (store_of now) (x ∷ []) xs h.1.device (was_asked h.0 now xs h.2)

-- and leads the mirror that stood there to one that stands there
pub was_led : {D : Type 0} {G : Ghosts D} (first now : AloneMirror D G) (calls : List Asked) (m : MirrorNow) → LeadsBy IsStep first calls now → StandsAt (store_of first) (holder_of first) m → (k : MirrorNow) × StandsAt (store_of now) (holder_of now) k × LeadsBy IsMirrorStep m calls k
was_led first now [] m e s = (m, subst (λ x. StandsAt (store_of x) (holder_of x) m) (sym e) s, refl)
was_led first now (x ∷ xs) m h s =
    let one = h.1.steps m s in
    let more = was_led h.0 now xs one.0 h.2 one.1 in
    (more.0, more.1, (one.0, one.2, more.2))

-- 36 is answered only where the journal has no room

full_number : (f : SyncFault) → f ≡ fault.Other refusal.LogFull → number_in f ≡ 36
full_number f e = ap number_in e

store_full : {D : Type 0} {G : Ghosts D} (old : RepoStore D G) (e : Entry) (due : Option RepoFault) (x : StoreFault) → Refuses old e due x → number_in (fault_of x) ≡ 36 → 2 ^ 56 < size_of (log_of old) + length (spelling e)
store_full old e due (Repo r) h k = absurd (not_36 (of_repository r) (repo_apart r) k)
store_full old e due (Log log.LogFull) h k = h.2
store_full old e due (Log log.Failed) h k = absurd (true≢false (ap (λ n. n == 32) k))
store_full old e due (Log log.OutOfMemory) h k = absurd (true≢false (ap (λ n. n == 70) k))
store_full old e due (Log log.DeviceFailed) h k = absurd h
store_full old e due (Log (log.Damaged n)) h k = absurd h
store_full old e due (Log log.NoRepository) h k = absurd h
store_full old e due (Log log.ThereAlready) h k = absurd h

err_is : (f g : SyncFault) → ◌≡◌ {A = Result Given SyncFault} (Err f) (Err g) → f ≡ g
err_is f g e = ap (λ r. by r) e
  where
    by : Result Given SyncFault → SyncFault
    by (Err x) = x
    by (Ok x) = f

pub full_unstaged : {D : Type 0} {G : Ghosts D} (old new : RepoStore D G) (call : Call) (e : Entry) (due : Option RepoFault) (x : StoreFault) (f : SyncFault) → entry_of (revisions_of old) call ≡ Some e → Stays old new × Refuses old e due x → f ≡ fault_of x
    → ◌≡◌ {A = Result Given SyncFault} (Err f) (Err (fault.Other refusal.LogFull)) → IsFull old call
full_unstaged old new call e due x f entry h same is = (e, entry, store_full old e due x h.1 (sym (ap number_in same) ∙ full_number f (err_is f (fault.Other refusal.LogFull) is)))

pub full_broken : {D : Type 0} {G : Ghosts D} (old mid new : RepoStore D G) (call : Call) (g : Entry) (x : StoreFault) (f : SyncFault) → IsBroken g mid new x → f ≡ fault_of x → ◌≡◌ {A = Result Given SyncFault} (Err f) (Err (fault.Other refusal.LogFull)) → IsFull old call
full_broken old mid new call g x f broken same is = absurd (true≢false (ap (λ n. n == 31) (sym (ap number_in (same ∙ ap fault_of broken.fault)) ∙ full_number f (err_is f (fault.Other refusal.LogFull) is))))

pub full_refused : {D : Type 0} {G : Ghosts D} (store : RepoStore D G) (m : Mirror) (seat : ℕ) (call : Call) (f : SyncFault) → AnswersErr m seat call f m → ◌≡◌ {A = Result Given SyncFault} (Err f) (Err (fault.Other refusal.LogFull)) → IsFull store call
full_refused store m seat call f r is = absurd (not_36 f (answer_apart m seat call f r) (full_number f (err_is f (fault.Other refusal.LogFull) is)))

pub full_not : {D : Type 0} {G : Ghosts D} (store : RepoStore D G) (call : Call) (r : Given) → ◌≡◌ {A = Result Given SyncFault} (Ok r) (Err (fault.Other refusal.LogFull)) → IsFull store call
full_not store call r is = absurd (cc)
