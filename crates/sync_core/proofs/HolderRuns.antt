-- What is known through whole runs.
use Rattle.std.proofs.Common.{◌≡◌, ◌≢◌, ◌⊎◌, inl, inr, ℕ, ◌==◌, Bool, true, false, List, [], ◌∷◌, slice_get, slice_set, if◌then◌else◌, Option, Some, None, is_some, is_none, not, refl, sym, ap, ◌∙◌, subst}
use Rattle.std.specs.Option.{option_map_or, option_map, option_or}
use Rattle.repo_core.specs.Repository.{Revision}
use Rattle.sync_core.specs.declared.need.Need.TheVariants as need
use Rattle.sync_core.specs.Mirror.{Mirror, Need, Standing, standing_of, holds, Call, Init, TakeLock, StealLock, ReleaseLock, SetCopying, Commit, PutProps, SetMerged, ClearCopying, Look, Refusal, Missed, refusal}
use Rattle.sync_core.specs.Jobs.{Begun, Locked, Job, begun, refused_to}
use Rattle.sync_core.specs.World.{Origin, moment_of, map_at, Room, World, Question, Identity, Latest, Fetch, FetchProps, Happening, Begin, Ask, Make, Starve, Leave, Read, Stop, StopAfter, Event, MasterCommit, MasterEdit, At, job_at, IsCallOf, MayHappen, MayBe, told, hears, does, holder_left, room_after, world_after, run, IsRun}
use Rattle.sync_core.specs.Law.{IsOpened, Starts, GoesOn, HolderGoesOn}
use Rattle.sync_core.proofs.Lists.{some_is, none_isnt, slice_get-stored}
use Rattle.sync_core.proofs.Kept.{refuse_if, passes, no_need, RoomKept, is_other}
use Rattle.sync_core.proofs.Jobs.{job-stored, job-pushed, holder_by}
use Rattle.sync_core.proofs.Holder.{SameNumbers, Knowing, RoomKnows, over, goes-on}
use Rattle.sync_core.proofs.HolderCalls.{knows-done}
use Rattle.sync_core.proofs.Runs.{WorldKept, kept-start, kept-event, kept-run}

abbrev Knows : Room → Type 0
Knows room = RoomKnows room.mirror.revisions room.mirror.holder room.jobs

hearing : (room : Room) (seat : ℕ) (job : Job) → Knows room → Knowing (standing_of room.mirror.revisions) room.mirror.holder seat job → Knows (hears room seat job)
hearing room seat job k own = record { jobs_know = λ i j at. which i j (job-stored room.jobs seat (Some job) i j at); lock = k.lock }
  where
    which : (i : ℕ) (j : Job) → ((i ≡ seat) × (Some job ≡ Some j)) ⊎ ((i ≢ seat) × (job_at room.jobs i ≡ Some j)) → Knowing (standing_of room.mirror.revisions) room.mirror.holder i j
    which i j (inl p) = subst (λ h. Knowing (standing_of room.mirror.revisions) room.mirror.holder h j) (sym p.0) (subst (Knowing (standing_of room.mirror.revisions) room.mirror.holder seat) (some_is job j p.1) own)
    which i j (inr p) = k.jobs_know i j p.1

-- a job of which nothing that matters here has changed
like : (r : Standing) (holder : Option ℕ) (seat : ℕ) (job after : Job) → Knowing r holder seat job → after.stage ≡ job.stage → after.looked ≡ job.looked → after.merged ≡ job.merged → after.copying ≡ job.copying → after.head ≡ job.head → Knowing r holder seat after
like r holder seat job after k st lo m c h =
    record {
      holding = λ l. k.holding (sym st ∙ l);
      numbers = λ l e. moved (k.numbers (sym st ∙ l) (sym lo ∙ e));
      blind = λ l e. m ∙ k.blind (sym st ∙ l) (sym lo ∙ e);
      begun = λ b. m ∙ k.begun (sym st ∙ b);
    }
  where
    moved : SameNumbers job r → SameNumbers after r
    moved s = record { merged = m ∙ s.merged; copying = c ∙ s.copying; head = h ∙ s.head }

told-like : (o : Origin) (r : Standing) (holder : Option ℕ) (seat : ℕ) (job : Job) (q : Question) → Knowing r holder seat job → Knowing r holder seat (told o job q)
told-like o r holder seat job Identity k = like r holder seat job (told o job Identity) k refl refl refl refl refl
told-like o r holder seat job Latest k = like r holder seat job (told o job Latest) k refl refl refl refl refl
told-like o r holder seat job (Fetch n set) k =
    elim (map_at o (moment_of o) n) as (λ s. Knowing r holder seat (option_map_or (λ p. record job { fetched = record { number = n; set = Some set; props = p; moment = moment_of o } ∷ job.fetched }) s job)) [
      | None ↦ k
      | Some p ↦ like r holder seat job (record job { fetched = record { number = n; set = Some set; props = p; moment = moment_of o } ∷ job.fetched }) k refl refl refl refl refl
    ]
told-like o r holder seat job (FetchProps n) k =
    elim (map_at o (moment_of o) n) as (λ s. Knowing r holder seat (option_map_or (λ p. record job { fetched = record { number = n; set = None; props = p; moment = moment_of o } ∷ job.fetched }) s job)) [
      | None ↦ k
      | Some p ↦ like r holder seat job (record job { fetched = record { number = n; set = None; props = p; moment = moment_of o } ∷ job.fetched }) k refl refl refl refl refl
    ]

refused-like : (r : Standing) (holder : Option ℕ) (seat : ℕ) (job : Job) (call : Call) → Knowing r holder seat job → Knowing r holder seat (refused_to job call)
refused-like r holder seat job (Init url uuid props) k = over r holder seat (refused_to job (Init url uuid props)) refl
refused-like r holder seat job (TakeLock token) k = over r holder seat (refused_to job (TakeLock token)) refl
refused-like r holder seat job (StealLock token) k = over r holder seat (refused_to job (StealLock token)) refl
refused-like r holder seat job ReleaseLock k = over r holder seat (refused_to job ReleaseLock) refl
refused-like r holder seat job (SetCopying n) k = k
refused-like r holder seat job (Commit n set props) k = k
refused-like r holder seat job (PutProps n props) k = k
refused-like r holder seat job (SetMerged n) k = k
refused-like r holder seat job ClearCopying k = k
refused-like r holder seat job Look k = k

no_jobs : (x : List Revision) → RoomKnows x None []
no_jobs x = record { jobs_know = λ i j e. none_isnt j e; lock = λ i e. none_isnt i e }

left_stays : (holder : Option ℕ) (seat i : ℕ) → i ≢ seat → holder ≡ Some i → holder_left holder seat ≡ Some i
left_stays holder seat i other h = rw (h, is_other i seat other) refl

left_was : (holder : Option ℕ) (seat i : ℕ) → holder_left holder seat ≡ Some i → holder ≡ Some i
left_was None seat i e = none_isnt i e
left_was (Some k) seat i e = elim (k == seat) as (λ b. (if b then None else Some k) ≡ Some i → ◌≡◌ {A = Option ℕ} (Some k) (Some i)) [ true ↦ λ f. none_isnt i f | false ↦ λ f. f ] e

knows-room : (o : Origin) (shaped : Bool) (room : Room) (what : Happening) → RoomKept o shaped room → Knows room → MayHappen o room what → Knows (room_after o room what)
knows-room o shaped room (Begin order) k n may = record { jobs_know = λ i j at. which i j (job-pushed room.jobs (Some (begun order)) i j at); lock = n.lock }
  where
    new : (i : ℕ) → Knowing (standing_of room.mirror.revisions) room.mirror.holder i (begun order)
    new i = record {
      holding = λ l. let f : Begun ≡ Locked = l in absurd (cc);
      numbers = λ l. let f : Begun ≡ Locked = l in absurd (cc);
      blind = λ l. let f : Begun ≡ Locked = l in absurd (cc);
      begun = λ b. refl;
    }

    which : (i : ℕ) (j : Job) → (Some (begun order) ≡ Some j) ⊎ (job_at room.jobs i ≡ Some j) → Knowing (standing_of room.mirror.revisions) room.mirror.holder i j
    which i j (inl p) = subst (Knowing (standing_of room.mirror.revisions) room.mirror.holder i) (some_is (begun order) j p) (new i)
    which i j (inr p) = n.jobs_know i j p
knows-room o shaped room (Ask seat question) k n may =
    elim (job_at room.jobs seat) as (λ s. job_at room.jobs seat ≡ s → Knows (option_map_or (λ job. hears room seat (told o job question)) s room)) [
      | None ↦ λ e. n
      | Some job ↦ λ e. hearing room seat (told o job question) n (told-like o (standing_of room.mirror.revisions) room.mirror.holder seat job question (n.jobs_know seat job e))
    ] refl
knows-room o shaped room (Make seat call) k n may =
    rw may.runs
    (elim (refusal room.mirror seat call) as (λ s. refusal room.mirror seat call ≡ s → Knows (if is_some s then hears room seat (refused_to may.job call) else does room seat may.job call)) [
      | None ↦ λ free. knows-done o shaped room seat may.job call k n may.runs may.lawful free
      | Some why ↦ λ not_free. hearing room seat (refused_to may.job call) n (refused-like (standing_of room.mirror.revisions) room.mirror.holder seat may.job call (n.jobs_know seat may.job may.runs))
    ] refl)
knows-room o shaped room (Starve seat call) k n may =
    rw may.runs (hearing room seat (refused_to may.job call) n (refused-like (standing_of room.mirror.revisions) room.mirror.holder seat may.job call (n.jobs_know seat may.job may.runs)))
knows-room o shaped room (Leave seat) k n may = record { jobs_know = λ i j at. which i j (job-stored room.jobs seat None i j at); lock = λ i e. n.lock i (left_was room.mirror.holder seat i e) }
  where
    which : (i : ℕ) (j : Job) → ((i ≡ seat) × (◌≡◌ {A = Option Job} None (Some j))) ⊎ ((i ≢ seat) × (job_at room.jobs i ≡ Some j)) → Knowing (standing_of room.mirror.revisions) (holder_left room.mirror.holder seat) i j
    which i j (inl p) = none_isnt j p.1
    which i j (inr p) =
        let old = n.jobs_know i j p.1 in
        record { holding = λ l. left_stays room.mirror.holder seat i p.0 (old.holding l); numbers = old.numbers; blind = old.blind; begun = old.begun }
knows-room o shaped room (Read m) k n may = n
knows-room o shaped room Stop k n may = no_jobs room.mirror.revisions
knows-room o shaped room (StopAfter seat call) k n may = let is : IsCallOf room seat call = may.0 in rw is.runs (no_jobs _)

record AllKnow (w : World) : Type 0 where
  know : (i : ℕ) (room : Room) → slice_get w.rooms i ≡ Some room → Knows room

know-event : (w : World) (shaped : ℕ → Bool) (e : Event) → WorldKept w shaped → AllKnow w → MayBe w e → AllKnow (world_after w e)
know-event w shaped (MasterCommit set props) k n may = record { know = n.know }
know-event w shaped (MasterEdit m props) k n may = record { know = n.know }
know-event w shaped (At j what) k n may = record { know = λ i room at. go (slice_get w.rooms j) refl i room at }
  where
    go : (s : Option Room) → slice_get w.rooms j ≡ s → (i : ℕ) (room : Room) → slice_get (option_map_or (λ r. slice_set w.rooms j (room_after w.origin r what)) s w.rooms) i ≡ Some room → Knows room
    go None e i room at = n.know i room at
    go (Some r) e i room at = which (slice_get-stored w.rooms j (room_after w.origin r what) i room at)
      where
        which : ((i ≡ j) × (room ≡ room_after w.origin r what)) ⊎ ((i ≢ j) × (slice_get w.rooms i ≡ Some room)) → Knows room
        which (inl p) = subst Knows (sym p.1) (knows-room w.origin (shaped j) r what (k.rooms j r e) (n.know j r e) (may r e))
        which (inr p) = n.know i room p.1

know-run : (w : World) (shaped : ℕ → Bool) (es : List Event) → WorldKept w shaped → AllKnow w → IsRun w es → AllKnow (run w es)
know-run w shaped [] k n is = n
know-run w shaped (e ∷ es) k n is = know-run (world_after w e) shaped es (kept-event w shaped e k is.0) (know-event w shaped e k n is.0) is.1

-- mirrors as they were opened have no jobs
first-know : (w : World) (shaped : ℕ → Bool) → Starts w shaped → AllKnow w
first-know w shaped is = record { know = λ i room at. none_there room (is.rooms i room at) }
  where
    none_there : {o : Origin} {b : Bool} (room : Room) → IsOpened o b room → Knows room
    none_there room opened = subst (λ h. RoomKnows room.mirror.revisions h room.jobs) (sym opened.holder) (subst (λ j. RoomKnows room.mirror.revisions None j) (sym opened.jobs) (no_jobs room.mirror.revisions))

-- nobody else gets a lock that is there, or held by a job that runs
lock-refused : (u l : Bool) (rest : Option Refusal) → u ≡ false → l ≡ true → option_or (option_map Missed (refuse_if u need.NotInitialised (refuse_if l need.LockHeld None))) rest ≡ Some (Missed need.LockHeld)
lock-refused u l rest e f = rw (e, f) refl

steal-refused : (u l : Bool) (rest : Option Refusal) → u ≡ false → l ≡ true → option_or (option_map Missed (refuse_if u need.NotInitialised (refuse_if l need.HolderRunning None))) rest ≡ Some (Missed need.HolderRunning)
steal-refused u l rest e f = rw (e, f) refl

not_none : {A : Type 0} (a : Option A) → is_some a ≡ true → is_none a ≡ false
not_none None e = cc
not_none (Some x) e = refl

-- nobody else's call is accepted but a look
held-alone : (m : Mirror) (seat other : ℕ) (rest : Option Need) (call : Call) → m.holder ≡ Some seat → other ≢ seat → refuse_if (not (holds m.holder other)) need.NotHolder rest ≡ None → call ≡ Look
held-alone m seat other rest call h differs e = absurd (differs (some_is other seat (sym (holder_by m other rest e) ∙ h)))

pub is-alone :
    (m : Mirror) (seat other : ℕ) (call : Call) → m.holder ≡ Some seat → is_some (standing_of m.revisions).url ≡ true → is_some (standing_of m.revisions).lock ≡ true
    → other ≢ seat → refusal m other call ≡ None → call ≡ Look
is-alone m seat other (Init url uuid props) h there lock differs free =
    let e : is_some (standing_of m.revisions).url ≡ false = (passes (is_some (standing_of m.revisions).url) need.AlreadyInitialised _ (no_need m other (Init url uuid props) free)).0 in
    let f : true ≡ false = sym there ∙ e in absurd (cc)
is-alone m seat other (TakeLock token) h there lock differs free =
    let e = passes (is_none (standing_of m.revisions).url) need.NotInitialised _ (no_need m other (TakeLock token) free) in
    let none : is_some (standing_of m.revisions).lock ≡ false = (passes (is_some (standing_of m.revisions).lock) need.LockHeld None e.1).0 in
    let f : true ≡ false = sym lock ∙ none in absurd (cc)
is-alone m seat other (StealLock token) h there lock differs free =
    let e = passes (is_none (standing_of m.revisions).url) need.NotInitialised _ (no_need m other (StealLock token) free) in
    let none : is_some m.holder ≡ false = (passes (is_some m.holder) need.HolderRunning None e.1).0 in
    let f : true ≡ false = sym (ap is_some h) ∙ none in absurd (cc)
is-alone m seat other ReleaseLock h there lock differs free = held-alone m seat other None ReleaseLock h differs (no_need m other ReleaseLock free)
is-alone m seat other (SetCopying n) h there lock differs free = held-alone m seat other _ (SetCopying n) h differs (no_need m other (SetCopying n) free)
is-alone m seat other (Commit n set props) h there lock differs free = held-alone m seat other _ (Commit n set props) h differs (no_need m other (Commit n set props) free)
is-alone m seat other (PutProps n props) h there lock differs free = held-alone m seat other _ (PutProps n props) h differs (no_need m other (PutProps n props) free)
is-alone m seat other (SetMerged n) h there lock differs free = held-alone m seat other _ (SetMerged n) h differs (no_need m other (SetMerged n) free)
is-alone m seat other ClearCopying h there lock differs free = held-alone m seat other _ ClearCopying h differs (no_need m other ClearCopying free)
is-alone m seat other Look h there lock differs free = refl

goes-on-in : (o : Origin) (shaped : Bool) (room : Room) (seat : ℕ) (job : Job) → RoomKept o shaped room → Knows room → job_at room.jobs seat ≡ Some job → job.stage ≡ Locked → GoesOn room seat job
goes-on-in o shaped room seat job k n there is =
    let known = n.jobs_know seat job there in
    let h = known.holding is in
    let url = not_none (standing_of room.mirror.revisions).url (k.held seat h) in
    record {
      holder = h;
      alone = λ other call differs free. is-alone room.mirror seat other call h (k.held seat h) (n.lock seat h) differs free;
      merged = λ l. sym (known.numbers is l).merged;
      copying = λ l. sym (known.numbers is l).copying;
      head = λ l. sym (known.numbers is l).head;
      needs = λ call lawful. goes-on (standing_of room.mirror.revisions) room.mirror.holder seat job call known is lawful;
      no_lock = λ other token. lock-refused (is_none (standing_of room.mirror.revisions).url) (is_some (standing_of room.mirror.revisions).lock) _ url (n.lock seat h);
      no_steal = λ other token. steal-refused (is_none (standing_of room.mirror.revisions).url) (is_some room.mirror.holder) _ url (ap is_some h);
    }

pub holder-goes-on : HolderGoesOn
holder-goes-on w shaped events is runs i room at seat job there locked_is =
    goes-on-in (run w events).origin (shaped i) room seat job
    ((kept-run w shaped events (kept-start w shaped is) runs).rooms i room at)
    ((know-run w shaped events (kept-start w shaped is) (first-know w shaped is) runs).know i room at) there locked_is
