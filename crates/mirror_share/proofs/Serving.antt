-- A run of a job at a seat meets no refusal for its lock or its turn.
use Rattle.std.proofs.Common.{◌≡◌, ◌≢◌, ◌⊎◌, inl, inr, ℕ, Bool, true, false, List, [], ◌∷◌, Option, Some, None, Result, Ok, Err, refl, sym, ap, subst, ◌∙◌}
use Rattle.std.specs.Prelude.{map, IfErr, IfOk, IsSome, MatchOption, OnOk}
use Rattle.std.proofs.lemmas.Bool.{true≢false}
use Rattle.repo_core.specs.declared.fault.RepoFault.{RepoFault}
use Rattle.repo_core.specs.declared.fault.RepoFault.TheVariants as repo
use Rattle.sync_core.specs.Copies.{Outcome, outcome_of}
use Rattle.sync_core.specs.Copies as told
use Rattle.sync_core.specs.Deeds.{Calls, AsksIdentity, AsksLatest, Fetches, FetchesProps, Ends, called, heard}
use Rattle.sync_core.specs.Holding.{TakesLock, known_by}
use Rattle.sync_core.specs.Jobs.{Job, Order, Sync, CopyProps, Begun, Locked, Over, Lawful, begun, locked, done_by, refused_to}
use Rattle.sync_core.specs.Mirror.{Call, Init, TakeLock, StealLock, ReleaseLock, SetCopying, Commit, PutProps, SetMerged, ClearCopying, Look}
use Rattle.sync_core.specs.Dues.{IsNeedFault}
use Rattle.sync_core.specs.Faults.{of_repository}
use Rattle.sync_core.specs.declared.need.Need.{Need}
use Rattle.sync_core.specs.declared.need.Need.TheVariants as need
use Rattle.sync_core.specs.declared.number.Number.TheVariants.{Absent}
use Rattle.sync_core.specs.declared.answer.Answer.{Answer}
use Rattle.sync_core.specs.declared.answer.Answer.TheVariants as answer
use Rattle.sync_core.specs.declared.fault.SyncFault.{SyncFault}
use Rattle.sync_core.specs.declared.fault.SyncFault.TheVariants as fault
use Rattle.sync_core.specs.declared.reply.Reply.{Reply as Given}
use Rattle.sync_core.specs.declared.reply.Reply.TheVariants as given
use Rattle.sync_core.specs.declared.standing.Standing.{Standing}
use Rattle.sync_job.specs.Fronts.{IsHeard}
use Rattle.sync_job.specs.Kept.{IsLook, IsWrite}
use Rattle.sync_job.specs.Mirrors.{IsFit}
use Rattle.sync_job.specs.Runs.{AreRight, IsCopying, IsWithin, answer_of, hears}
use Rattle.sync_job.specs.Said.{Spoken, Says, NoTree, Tells}
use Rattle.mirror_share.specs.Holding.{IsServed, job_after}
use Rattle.mirror_share.specs.Carried.{IsCarried}
use Rattle.mirror_share.specs.Counts.{Counts, KnowsCounts, TellsCounts, counts_of}
use Rattle.mirror_share.specs.Refused.{IsRefusalOf, MayForbid, MayMiss, Missed, Forbidden, NoMemory, NoRoom, DeviceFails, Failed}
use Rattle.mirror_share.specs.Served.{Happening, Called, Spoke, said_as, IsAllowed, IsNoCall, AreCalls, AreServed, SyncIsServed, CopyIsServed}
use Rattle.mirror_share.proofs.Keeping.{begun_not}

-- a job with its lock has the hand at its seat and knows what is counted; one that has not begun has seen nothing
record Has (job : Job) (hand : Option Counts) : Type 0 where
  fresh : job.stage ≡ Begun → job.merged ≡ Absent
  held : job.stage ≡ Locked → MatchOption hand ⊥ (λ k. KnowsCounts job k)

has_over : (job : Job) (hand : Option Counts) → job.stage ≡ Over → Has job hand
has_over job hand o = record {
  fresh = λ b. (let f : Over ≡ Begun = sym o ∙ b in absurd (cc));
  held = λ l. (let f : Over ≡ Locked = sym o ∙ l in absurd (cc));
}

has_known : (job : Job) (hand : Option Counts) → MatchOption hand ⊥ (λ k. KnowsCounts job k) → Has job hand
has_known job None h = absurd h
has_known job (Some k) h = record { fresh = λ b. begun_not job h.locked b; held = λ l. h }

-- a job that was told something else
has_told : (job after : Job) (hand : Option Counts) → Has job hand → after.stage ≡ job.stage → after.looked ≡ job.looked → known_by after ≡ known_by job → Has after hand
has_told job after hand h st lo kn = record {
  fresh = λ b. ap (λ n. n.merged) kn ∙ h.fresh (sym st ∙ b);
  held = λ l. knows hand (h.held (sym st ∙ l));
}
  where
    knows : (hand : Option Counts) → MatchOption hand ⊥ (λ k. KnowsCounts job k) → MatchOption hand ⊥ (λ k. KnowsCounts after k)
    knows None k = absurd k
    knows (Some c) k = record {
      locked = st ∙ k.locked;
      counts = λ l. ap counts_of kn ∙ k.counts (sym lo ∙ l);
      blind = λ l. ap (λ n. n.merged) kn ∙ k.blind (sym lo ∙ l);
    }

-- what was said and was no call

has_identity : (job : Job) (o : Outcome) (hand : Option Counts) → Has job hand → Has (heard job 0 AsksIdentity (answer_of o)) hand
has_identity job told.Done hand h = h
has_identity job (told.Seen s) hand h = h
has_identity job (told.Identity u) hand h = has_told job (heard job 0 AsksIdentity (answer.Identity u)) hand h refl refl refl
has_identity job (told.Latest n) hand h = h
has_identity job (told.Revision set props) hand h = h
has_identity job (told.Map props) hand h = h
has_identity job (told.Refused number text) hand h = h
has_identity job (told.Failed text) hand h = h

has_latest : (job : Job) (o : Outcome) (hand : Option Counts) → Has job hand → Has (heard job 0 AsksLatest (answer_of o)) hand
has_latest job told.Done hand h = h
has_latest job (told.Seen s) hand h = h
has_latest job (told.Identity u) hand h = h
has_latest job (told.Latest n) hand h = has_told job (heard job 0 AsksLatest (answer.Latest n)) hand h refl refl refl
has_latest job (told.Revision set props) hand h = h
has_latest job (told.Map props) hand h = h
has_latest job (told.Refused number text) hand h = h
has_latest job (told.Failed text) hand h = h

has_fetched : (job : Job) (n : ℕ) (o : Outcome) (hand : Option Counts) → Has job hand → Has (heard job 0 (Fetches n) (answer_of o)) hand
has_fetched job n told.Done hand h = h
has_fetched job n (told.Seen s) hand h = h
has_fetched job n (told.Identity u) hand h = h
has_fetched job n (told.Latest k) hand h = h
has_fetched job n (told.Revision set props) hand h = has_told job (heard job 0 (Fetches n) (answer.Revision set props)) hand h refl refl refl
has_fetched job n (told.Map props) hand h = h
has_fetched job n (told.Refused number text) hand h = h
has_fetched job n (told.Failed text) hand h = h

has_props : (job : Job) (n : ℕ) (o : Outcome) (hand : Option Counts) → Has job hand → Has (heard job 0 (FetchesProps n) (answer_of o)) hand
has_props job n told.Done hand h = h
has_props job n (told.Seen s) hand h = h
has_props job n (told.Identity u) hand h = h
has_props job n (told.Latest k) hand h = h
has_props job n (told.Revision set props) hand h = h
has_props job n (told.Map props) hand h = has_told job (heard job 0 (FetchesProps n) (answer.Map props)) hand h refl refl refl
has_props job n (told.Refused number text) hand h = h
has_props job n (told.Failed text) hand h = h

has_spoken : (job : Job) (spoken : Spoken) (hand : Option Counts) → IsNoCall spoken → Has job hand → Has (hears job spoken) hand
has_spoken job (Says (Calls call) o) hand q h = absurd q
has_spoken job (Says AsksIdentity o) hand q h = has_identity job o hand h
has_spoken job (Says AsksLatest o) hand q h = has_latest job o hand h
has_spoken job (Says (Fetches n) o) hand q h = has_fetched job n o hand h
has_spoken job (Says (FetchesProps n) o) hand q h = has_props job n o hand h
has_spoken job (Says Ends o) hand q h = h
has_spoken job (NoTree n o) hand q h = h
has_spoken job (Tells t) hand q h = h

-- the job behind a call, as it hears the answer

abbrev hears_call : Job → Call → Answer → Job
hears_call job call a = called job call (answer_of (outcome_of a))

not_both : (call : Call) → IsWrite call → IsLook call → ⊥
not_both (Init url uuid props) w l = l
not_both (TakeLock token) w l = l
not_both (StealLock token) w l = l
not_both ReleaseLock w l = l
not_both (SetCopying n) w l = l
not_both (Commit n set props) w l = l
not_both (PutProps n props) w l = l
not_both (SetMerged n) w l = l
not_both ClearCopying w l = l
not_both Look w l = w

hears_refusal : (job : Job) (call : Call) (f : SyncFault) (a : Answer) → IsHeard (Err f) a → hears_call job call a ≡ refused_to job call
hears_refusal job call f a (inl e) = ap (λ x. hears_call job call x) e
hears_refusal job call f a (inr (inl e)) = ap (λ x. hears_call job call x) e.0
hears_refusal job call f a (inr (inr e)) = ap (λ x. hears_call job call x) e.0

-- a job that ends: its first call wasn't for the lock, or it was the release

abbrev EndsJob : Call → Type 0
EndsJob (Init url uuid props) = Unit {0}
EndsJob ReleaseLock = Unit {0}
EndsJob _ = ⊥

is_over : (job : Job) (call : Call) → EndsJob call → ((done_by job call).stage ≡ Over) × ((refused_to job call).stage ≡ Over)
is_over job (Init url uuid props) e = (refl, refl)
is_over job ReleaseLock e = (refl, refl)
is_over job (TakeLock token) e = absurd e
is_over job (StealLock token) e = absurd e
is_over job (SetCopying n) e = absurd e
is_over job (Commit n set props) e = absurd e
is_over job (PutProps n props) e = absurd e
is_over job (SetMerged n) e = absurd e
is_over job ClearCopying e = absurd e
is_over job Look e = absurd e

ends_writes : (call : Call) → EndsJob call → IsWrite call
ends_writes (Init url uuid props) e = tt
ends_writes ReleaseLock e = tt
ends_writes (TakeLock token) e = tt
ends_writes (StealLock token) e = tt
ends_writes (SetCopying n) e = tt
ends_writes (Commit n set props) e = tt
ends_writes (PutProps n props) e = tt
ends_writes (SetMerged n) e = tt
ends_writes ClearCopying e = tt
ends_writes Look e = absurd e

has_ended : (job : Job) (call : Call) (result : Result Given SyncFault) (a : Answer) (hand : Option Counts) → EndsJob call → IfOk result (IsFit call) → IsHeard result a → Has (hears_call job call a) hand
has_ended job call (Ok given.Done) a hand ends fit e = has_over (hears_call job call a) hand (ap (λ x. (hears_call job call x).stage) e ∙ (is_over job call ends).0)
has_ended job call (Ok (given.Seen s)) a hand ends fit e = absurd (not_both call (ends_writes call ends) fit)
has_ended job call (Err f) a hand ends fit e = has_over (hears_call job call a) hand (ap (λ (j : Job). j.stage) (hears_refusal job call f a e) ∙ (is_over job call ends).1)

-- a job that asks for its lock

locks_writes : (call : Call) → TakesLock call → IsWrite call
locks_writes (TakeLock token) t = tt
locks_writes (StealLock token) t = tt
locks_writes (Init url uuid props) t = tt
locks_writes ReleaseLock t = tt
locks_writes (SetCopying n) t = tt
locks_writes (Commit n set props) t = tt
locks_writes (PutProps n props) t = tt
locks_writes (SetMerged n) t = tt
locks_writes ClearCopying t = tt
locks_writes Look t = absurd t

is_locked : (job : Job) (call : Call) → TakesLock call → (done_by job call ≡ locked job) × ((refused_to job call).stage ≡ Over)
is_locked job (TakeLock token) t = (refl, refl)
is_locked job (StealLock token) t = (refl, refl)
is_locked job (Init url uuid props) t = absurd t
is_locked job ReleaseLock t = absurd t
is_locked job (SetCopying n) t = absurd t
is_locked job (Commit n set props) t = absurd t
is_locked job (PutProps n props) t = absurd t
is_locked job (SetMerged n) t = absurd t
is_locked job ClearCopying t = absurd t
is_locked job Look t = absurd t

has_lock : (job : Job) (hand : Option Counts) → job.merged ≡ Absent → IsSome hand → Has (locked job) hand
has_lock job None blank some = let f : false ≡ true = some in absurd (cc)
has_lock job (Some k) blank some = has_known (locked job) (Some k) (record {
  locked = refl;
  counts = λ l. (let f : false ≡ true = l in absurd (cc));
  blind = λ l. blank;
})

has_asked : (job : Job) (call : Call) (result : Result Given SyncFault) (a : Answer) (hand : Option Counts) → TakesLock call → job.merged ≡ Absent → IfOk result (IsFit call) → IsHeard result a → OnOk result (IsSome hand)
    → Has (hears_call job call a) hand
has_asked job call (Ok given.Done) a hand t blank fit e some = subst (λ j. Has j hand) (sym (ap (λ x. hears_call job call x) e ∙ (is_locked job call t).0)) (has_lock job hand blank some)
has_asked job call (Ok (given.Seen s)) a hand t blank fit e some = absurd (not_both call (locks_writes call t) fit)
has_asked job call (Err f) a hand t blank fit e some = has_over (hears_call job call a) hand (ap (λ (j : Job). j.stage) (hears_refusal job call f a e) ∙ (is_locked job call t).1)

-- a job at work

abbrev KnowsIn : Job → Option Counts → Type 0
KnowsIn job hand = MatchOption hand ⊥ (λ k. KnowsCounts job k)

-- a look whose answer can't be kept tells nothing, and the seat has counted nothing else
still_knows : (job : Job) (k : Counts) (s : Standing) (hand : Option Counts) → KnowsCounts job k → TellsCounts k (given.Seen s) → KnowsIn (job_after job Look (Ok (given.Seen s))) hand → KnowsIn job hand
still_knows job k s None knows tells after = absurd after
still_knows job k s (Some j) knows tells after = subst (KnowsCounts job) (sym tells ∙ after.counts refl) knows

has_looked : (job : Job) (k : Counts) (s : Standing) (a : Answer) (hand : Option Counts) → KnowsCounts job k → TellsCounts k (given.Seen s) → IsHeard (Ok (given.Seen s)) a → KnowsIn (job_after job Look (Ok (given.Seen s))) hand
    → KnowsIn (hears_call job Look a) hand
has_looked job k s a hand knows tells (inl e) after = subst (λ j. KnowsIn j hand) (sym (ap (λ x. hears_call job Look x) e)) after
has_looked job k s a hand knows tells (inr e) after = subst (λ j. KnowsIn j hand) (sym (ap (λ x. hears_call job Look x) e)) (still_knows job k s hand knows tells after)

seen_look : (call : Call) → IsLook call → call ≡ Look
seen_look Look l = refl
seen_look (Init url uuid props) l = absurd l
seen_look (TakeLock token) l = absurd l
seen_look (StealLock token) l = absurd l
seen_look ReleaseLock l = absurd l
seen_look (SetCopying n) l = absurd l
seen_look (Commit n set props) l = absurd l
seen_look (PutProps n props) l = absurd l
seen_look (SetMerged n) l = absurd l
seen_look ClearCopying l = absurd l

knows_then : (job : Job) (call : Call) (result : Result Given SyncFault) (a : Answer) (k : Counts) (hand : Option Counts) → KnowsCounts job k → IfOk result (IsFit call) → IsHeard result a → IfOk result (TellsCounts k)
    → KnowsIn (job_after job call result) hand → KnowsIn (hears_call job call a) hand
knows_then job call (Ok given.Done) a k hand knows fit e tells after = subst (λ j. KnowsIn j hand) (sym (ap (λ x. hears_call job call x) e)) after
knows_then job call (Err f) a k hand knows fit e tells after = subst (λ j. KnowsIn j hand) (sym (hears_refusal job call f a e)) after
knows_then job Look (Ok (given.Seen s)) a k hand knows fit e tells after = has_looked job k s a hand knows tells e after
knows_then job (Init url uuid props) (Ok (given.Seen s)) a k hand knows fit e tells after = absurd fit
knows_then job (TakeLock token) (Ok (given.Seen s)) a k hand knows fit e tells after = absurd fit
knows_then job (StealLock token) (Ok (given.Seen s)) a k hand knows fit e tells after = absurd fit
knows_then job ReleaseLock (Ok (given.Seen s)) a k hand knows fit e tells after = absurd fit
knows_then job (SetCopying n) (Ok (given.Seen s)) a k hand knows fit e tells after = absurd fit
knows_then job (Commit n set props) (Ok (given.Seen s)) a k hand knows fit e tells after = absurd fit
knows_then job (PutProps n props) (Ok (given.Seen s)) a k hand knows fit e tells after = absurd fit
knows_then job (SetMerged n) (Ok (given.Seen s)) a k hand knows fit e tells after = absurd fit
knows_then job ClearCopying (Ok (given.Seen s)) a k hand knows fit e tells after = absurd fit

-- the calls before the lock miss no need of a holder

abbrev is_turn : SyncFault → Bool
is_turn fault.NotHolder = true
is_turn fault.OutOfTurn = true
is_turn _ = false

abbrev is_turn_need : Need → Bool
is_turn_need need.NotHolder = true
is_turn_need need.OutOfTurn = true
is_turn_need _ = false

need_apart : (n : Need) (lock : Option (List ℕ)) (f : SyncFault) → IsNeedFault n lock f → is_turn_need n ≡ false → is_turn f ≡ false
need_apart need.NotInitialised lock f is h = ap is_turn is
need_apart need.AlreadyInitialised lock f is h = ap is_turn is
need_apart need.NotEmpty lock f is h = ap is_turn is
need_apart need.LockHeld lock f is h = ap is_turn is.1
need_apart need.HolderRunning lock f is h = ap is_turn is.1
need_apart need.NotHolder lock f is h = absurd (true≢false h)
need_apart need.OutOfTurn lock f is h = absurd (true≢false h)

refusal_apart : (call : Call) (f : SyncFault) → ((n : Need) → MayMiss call n → is_turn_need n ≡ false) → ((e : RepoFault) → MayForbid call e → e ≡ repo.TooLong) → IsRefusalOf call f → is_turn f ≡ false
refusal_apart call f misses forbids (Missed n lock may is) = need_apart n lock f is (misses n may)
refusal_apart call f misses forbids (Forbidden e may is) = ap is_turn (is ∙ ap of_repository (forbids e may))
refusal_apart call f misses forbids (NoMemory is) = ap is_turn is
refusal_apart call f misses forbids (NoRoom write is) = ap is_turn is
refusal_apart call f misses forbids (DeviceFails write is) = ap is_turn is
refusal_apart call f misses forbids (Failed is) = ap is_turn is

one_of : (a b n : Need) → is_turn_need a ≡ false → is_turn_need b ≡ false → (n ≡ a) ⊎ (n ≡ b) → is_turn_need n ≡ false
one_of a b n h k (inl e) = ap is_turn_need e ∙ h
one_of a b n h k (inr e) = ap is_turn_need e ∙ k

allowed_first : (call : Call) (result : Result Given SyncFault) → ((n : Need) → MayMiss call n → is_turn_need n ≡ false) → ((e : RepoFault) → MayForbid call e → e ≡ repo.TooLong) → IfErr result (IsRefusalOf call) → IsAllowed result
allowed_first call (Ok r) misses forbids why = tt
allowed_first call (Err f) misses forbids why =
    let apart = refusal_apart call f misses forbids why in ((λ e. true≢false (sym (ap is_turn e) ∙ apart)), (λ e. true≢false (sym (ap is_turn e) ∙ apart)))

allowed : (job : Job) (result : Result Given SyncFault) → IsServed job result → IsAllowed result
allowed job (Ok given.Done) h = tt
allowed job (Ok (given.Seen s)) h = tt
allowed job (Err f) h = h

-- what a call comes to: it is served where the job has its lock, and leaves the job and its seat so
abbrev Comes : Job → Call → Result Given SyncFault → Answer → Option Counts → Type 0
Comes job call result a hand = IsAllowed result × (job.stage ≡ Locked → IsServed job result) × Has (hears_call job call a) hand

comes_work : (job : Job) (call : Call) (result : Result Given SyncFault) (a : Answer) (hand next : Option Counts) → job.stage ≡ Locked → call ≢ ReleaseLock → Lawful job call → Has job hand → IfOk result (IsFit call) → IsHeard result a
    → IsCarried hand next call result → Comes job call result a next
comes_work job call result a None next l goes lawful has fit e c = absurd (has.held l)
comes_work job call result a (Some k) next l goes lawful has fit e c =
    let s = c.served job (has.held l) lawful in (allowed job result s, (λ x. s), has_known (hears_call job call a) next (knows_then job call result a k next (has.held l) fit e c.tells (c.stays job (has.held l) lawful goes)))

comes_release : (job : Job) (result : Result Given SyncFault) (a : Answer) (hand next : Option Counts) → job.stage ≡ Locked → Has job hand → IfOk result (IsFit ReleaseLock) → IsHeard result a → IsCarried hand next ReleaseLock result
    → Comes job ReleaseLock result a next
comes_release job result a None next l has fit e c = absurd (has.held l)
comes_release job result a (Some k) next l has fit e c = let s = c.served job (has.held l) l in (allowed job result s, (λ x. s), has_ended job ReleaseLock result a next tt fit e)

comes_asked : (job : Job) (call : Call) (result : Result Given SyncFault) (a : Answer) (hand next : Option Counts) → TakesLock call → job.stage ≡ Begun → IsAllowed result → Has job hand → IfOk result (IsFit call) → IsHeard result a → IsCarried hand next call result
    → Comes job call result a next
comes_asked job call result a hand next t b free has fit e c = (free, (λ l. begun_not job l b), has_asked job call result a next t (has.fresh b) fit e (c.takes t))

comes : (job : Job) (call : Call) (result : Result Given SyncFault) (a : Answer) (hand next : Option Counts) → Lawful job call → Has job hand → IfOk result (IsFit call) → IfErr result (IsRefusalOf call) → IsHeard result a → IsCarried hand next call result → Comes job call result a next
comes job (Init url uuid props) result a hand next lawful has fit why e c =
    (allowed_first (Init url uuid props) result (λ n may. one_of need.AlreadyInitialised need.NotEmpty n refl refl may) (λ x may. may) why, (λ l. begun_not job l lawful.begun), has_ended job (Init url uuid props) result a next tt fit e)
comes job (TakeLock token) result a hand next lawful has fit why e c =
    comes_asked job (TakeLock token) result a hand next tt lawful.begun (allowed_first (TakeLock token) result (λ n may. one_of need.NotInitialised need.LockHeld n refl refl may) (λ x may. may) why) has fit e c
comes job (StealLock token) result a hand next lawful has fit why e c =
    comes_asked job (StealLock token) result a hand next tt lawful.begun (allowed_first (StealLock token) result (λ n may. one_of need.NotInitialised need.HolderRunning n refl refl may) (λ x may. may) why) has fit e c
comes job ReleaseLock result a hand next lawful has fit why e c = comes_release job result a hand next lawful has fit e c
comes job (SetCopying n) result a hand next lawful has fit why e c = comes_work job (SetCopying n) result a hand next lawful.idle.locked (λ x. (let f : SetCopying n ≡ ReleaseLock = x in absurd (cc))) lawful has fit e c
comes job (Commit n set props) result a hand next lawful has fit why e c = comes_work job (Commit n set props) result a hand next lawful.copying.locked (λ x. (let f : Commit n set props ≡ ReleaseLock = x in absurd (cc))) lawful has fit e c
comes job (PutProps n props) result a hand next lawful has fit why e c = comes_work job (PutProps n props) result a hand next lawful.locked (λ x. (let f : PutProps n props ≡ ReleaseLock = x in absurd (cc))) lawful has fit e c
comes job (SetMerged n) result a hand next lawful has fit why e c = comes_work job (SetMerged n) result a hand next lawful.committed.locked (λ x. (let f : SetMerged n ≡ ReleaseLock = x in absurd (cc))) lawful has fit e c
comes job ClearCopying result a hand next lawful has fit why e c = comes_work job ClearCopying result a hand next lawful.merged.locked (λ x. (let f : ClearCopying ≡ ReleaseLock = x in absurd (cc))) lawful has fit e c
comes job Look result a hand next lawful has fit why e c = comes_work job Look result a hand next lawful (λ x. (let f : Look ≡ ReleaseLock = x in absurd (cc))) lawful has fit e c

-- the list of a run

some_in : (job : Job) (hand : Option Counts) → KnowsIn job hand → IsSome hand
some_in job None h = absurd h
some_in job (Some k) h = refl

are_served : (IsNumber : Job → ℕ → Type 0) (job : Job) (hand : Option Counts) (es : List Happening) → Has job hand → AreRight IsNumber job (map said_as es) → AreCalls hand es → AreServed job es
are_served IsNumber job hand [] has right calls = tt
are_served IsNumber job hand (Called call result a next ∷ es) has right calls =
    let c = comes job call result a hand next right.0.0 has calls.0 calls.1 calls.2 calls.3 in (c.0, c.1, λ l. some_in (hears_call job call a) next (c.2.held l), are_served IsNumber (hears_call job call a) next es c.2 right.1 calls.4)
are_served IsNumber job hand (Spoke spoken ∷ es) has right calls = are_served IsNumber (hears job spoken) hand es (has_spoken job spoken hand calls.0 has) right.1 calls.1

begins : (order : Order) → Has (begun order) None
begins order = record { fresh = λ b. refl; held = λ l. (let f : Begun ≡ Locked = l in absurd (cc)) }

pub run_served : (IsNumber : Job → ℕ → Type 0) (order : Order) (es : List Happening) → AreRight IsNumber (begun order) (map said_as es) → AreCalls None es → AreServed (begun order) es
run_served IsNumber order es right calls = are_served IsNumber (begun order) None es (begins order) right calls

pub sync-is-served : SyncIsServed
sync-is-served token steal es right calls = run_served IsCopying (Sync token steal) es right calls

pub copy-is-served : CopyIsServed
copy-is-served token low high es right calls = run_served (IsWithin low high) (CopyProps token) es right calls
