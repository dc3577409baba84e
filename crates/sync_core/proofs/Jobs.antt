-- The jobs of a mirror through every happening.
use Rattle.std.proofs.Common.{◌≡◌, ◌≢◌, ◌⊎◌, inl, inr, ℕ, ◌≤◌, ◌==◌, true, false, not, List, [], ◌∷◌, ◌++◌, length, slice_get, slice_set, if◌then◌else◌, Option, Some, None, is_some, le_refl, refl, sym, ap, ◌∙◌, subst, arith}
use Rattle.std.specs.Option.{option_map_or, option_and_then}
use Rattle.node_base.specs.Path.{Name}
use Rattle.node_base.specs.Props.{PropMap}
use Rattle.dump_load.specs.declared.change.Change.{Change}
use Rattle.sync_core.specs.declared.need.Need.TheVariants as need
use Rattle.sync_core.specs.Mirror.{Mirror, standing_of, Need, Call, Init, TakeLock, StealLock, ReleaseLock, SetCopying, Commit, PutProps, SetMerged, ClearCopying, Look, holds, refusal, holder_after, granted}
use Rattle.sync_core.specs.Jobs.{Fetched, Job, last_fetch, GivesSet, GivesMap, Lawful, with_fetched, done_by, refused_to, answered}
use Rattle.sync_core.specs.World.{Origin, moment_of, map_at, Question, Identity, Latest, Fetch, FetchProps, job_at, Makes, IsTrueAnswer, told, moment_for, stamped, copied_after}
use Rattle.sync_core.proofs.Lists.{some_is, none_isnt, slice_get-push, slice_get-stored}
use Rattle.sync_core.proofs.Kept.{refuse_if, JobsKept, IsFetched, has_url, is_equal, passes, no_need, not_false, holder_is}

pub job-stored : (jobs : List (Option Job)) (seat : ℕ) (new : Option Job) (i : ℕ) (job : Job) → job_at (slice_set jobs seat new) i ≡ Some job → ((i ≡ seat) × (new ≡ Some job)) ⊎ ((i ≢ seat) × (job_at jobs i ≡ Some job))
job-stored jobs seat new i job e = cases (slice_get (slice_set jobs seat new) i) refl e
  where
    cases : (s : Option (Option Job)) → slice_get (slice_set jobs seat new) i ≡ s → option_and_then (λ j. j) s ≡ Some job → ((i ≡ seat) × (new ≡ Some job)) ⊎ ((i ≢ seat) × (job_at jobs i ≡ Some job))
    cases None a f = none_isnt job f
    cases (Some j) a f = two (slice_get-stored jobs seat new i j a)
      where
        two : ((i ≡ seat) × (j ≡ new)) ⊎ ((i ≢ seat) × (slice_get jobs i ≡ Some j)) → ((i ≡ seat) × (new ≡ Some job)) ⊎ ((i ≢ seat) × (job_at jobs i ≡ Some job))
        two (inl p) = inl (p.0, sym p.1 ∙ f)
        two (inr p) = inr (p.0, ap (option_and_then (λ (z : Option Job). z)) p.1 ∙ f)

pub job-pushed : (jobs : List (Option Job)) (new : Option Job) (i : ℕ) (job : Job) → job_at (jobs ++ new ∷ []) i ≡ Some job → (new ≡ Some job) ⊎ (job_at jobs i ≡ Some job)
job-pushed jobs new i job e = cases (slice_get (jobs ++ new ∷ []) i) refl e
  where
    cases : (s : Option (Option Job)) → slice_get (jobs ++ new ∷ []) i ≡ s → option_and_then (λ j. j) s ≡ Some job → (new ≡ Some job) ⊎ (job_at jobs i ≡ Some job)
    cases None a f = none_isnt job f
    cases (Some j) a f = two (slice_get-push jobs new i j a)
      where
        two : ((i ≡ length jobs) × (j ≡ new)) ⊎ (slice_get jobs i ≡ Some j) → (new ≡ Some job) ⊎ (job_at jobs i ≡ Some job)
        two (inl p) = inl (sym p.1 ∙ f)
        two (inr p) = inr (ap (option_and_then (λ (z : Option Job). z)) p ∙ f)

-- a job that is as it must be at a seat
pub record JobKept (o : Origin) (holds_it : Type 0) (copied : ℕ → ℕ) (job : Job) : Type 0 where
  pub fetched : (n : ℕ) (f : Fetched) → last_fetch job.fetched n ≡ Some f → IsFetched o n f
  pub later : holds_it → (n : ℕ) (f : Fetched) → last_fetch job.fetched n ≡ Some f → copied n ≤ f.moment
  pub identity : (u : Name) → job.identity ≡ Some u → u ≡ o.identity

pub at_seat : (o : Origin) (jobs : List (Option Job)) (holder : Option ℕ) (copied : ℕ → ℕ) (seat : ℕ) (job : Job) → JobsKept o jobs holder copied → job_at jobs seat ≡ Some job → JobKept o (holder ≡ Some seat) copied job
at_seat o jobs holder copied seat job k runs = record { fetched = k.fetched seat job runs; later = k.later seat job runs; identity = k.identity seat job runs }

-- one seat's job is another one now; the holder and the moments may have moved for the others too
pub jobs-set :
    (o : Origin) (jobs : List (Option Job)) (holder holder2 : Option ℕ) (copied copied2 : ℕ → ℕ) (seat : ℕ) (job : Job)
    → JobsKept o jobs holder copied → ((n : ℕ) → copied2 n ≤ moment_of o) → JobKept o (holder2 ≡ Some seat) copied2 job
    → ((i : ℕ) → i ≢ seat → holder2 ≡ Some i → (holder ≡ Some i) × ((n : ℕ) → copied2 n ≡ copied n))
    → JobsKept o (slice_set jobs seat (Some job)) holder2 copied2
jobs-set o jobs holder holder2 copied copied2 seat job k past own others =
    record {
      past = past;
      fetched = λ i j runs. a_fetched i j (job-stored jobs seat (Some job) i j runs);
      later = λ i j runs h. a_later i j h (job-stored jobs seat (Some job) i j runs);
      identity = λ i j runs. a_identity i j (job-stored jobs seat (Some job) i j runs);
    }
  where
    a_fetched : (i : ℕ) (j : Job) → ((i ≡ seat) × (Some job ≡ Some j)) ⊎ ((i ≢ seat) × (job_at jobs i ≡ Some j)) → (n : ℕ) (f : Fetched) → last_fetch j.fetched n ≡ Some f → IsFetched o n f
    a_fetched i j (inl p) n f l = own.fetched n f (ap (λ (z : Job). last_fetch z.fetched n) (some_is job j p.1) ∙ l)
    a_fetched i j (inr p) n f l = k.fetched i j p.1 n f l

    a_later : (i : ℕ) (j : Job) → holder2 ≡ Some i → ((i ≡ seat) × (Some job ≡ Some j)) ⊎ ((i ≢ seat) × (job_at jobs i ≡ Some j)) → (n : ℕ) (f : Fetched) → last_fetch j.fetched n ≡ Some f → copied2 n ≤ f.moment
    a_later i j h (inl p) n f l = own.later (h ∙ ap (λ (s : ℕ). Some s) p.0) n f (ap (λ (z : Job). last_fetch z.fetched n) (some_is job j p.1) ∙ l)
    a_later i j h (inr p) n f l =
        let w = others i p.0 h in
        let e : copied2 n ≡ copied n = w.1 n in
        let g : copied n ≤ f.moment = k.later i j p.1 w.0 n f l in
        omega arith

    a_identity : (i : ℕ) (j : Job) → ((i ≡ seat) × (Some job ≡ Some j)) ⊎ ((i ≢ seat) × (job_at jobs i ≡ Some j)) → (u : Name) → j.identity ≡ Some u → u ≡ o.identity
    a_identity i j (inl p) u e = own.identity u (ap (λ (z : Job). z.identity) (some_is job j p.1) ∙ e)
    a_identity i j (inr p) u e = k.identity i j p.1 u e

-- nothing moved but one job's knowledge
pub jobs-hear :
    (o : Origin) (jobs : List (Option Job)) (holder : Option ℕ) (copied : ℕ → ℕ) (seat : ℕ) (job : Job)
    → JobsKept o jobs holder copied → JobKept o (holder ≡ Some seat) copied job → JobsKept o (slice_set jobs seat (Some job)) holder copied
jobs-hear o jobs holder copied seat job k own = jobs-set o jobs holder holder copied copied seat job k k.past own (λ i other h. (h, λ n. refl))

-- a job that fetches, at the present moment
pub fetched-now :
    (o : Origin) (holds_it : Type 0) (copied : ℕ → ℕ) (job : Job) (n : ℕ) (set : Option (List Change)) (p : PropMap)
    → JobKept o holds_it copied job → ((m : ℕ) → copied m ≤ moment_of o) → map_at o (moment_of o) n ≡ Some p → ((s : (List Change)) → set ≡ Some s → Makes o n s)
    → JobKept o holds_it copied (with_fetched job n set p (moment_of o))
fetched-now o holds_it copied job n set p k past there makes =
    record {
      fetched = λ m f. elim (n == m) as (λ b. (n == m) ≡ b → (if b then Some new else last_fetch job.fetched m) ≡ Some f → IsFetched o m f) [
        | true ↦ λ e l. subst (λ g. IsFetched o m g) (some_is new f l) (subst (λ i. IsFetched o i new) (is_equal n m e) (record { there = there; by_now = omega arith; makes = makes }))
        | false ↦ λ e l. k.fetched m f l
      ] refl;
      later = λ h m f. elim (n == m) as (λ b. (if b then Some new else last_fetch job.fetched m) ≡ Some f → copied m ≤ f.moment) [
        | true ↦ λ l. subst (λ (g : Fetched). copied m ≤ g.moment) (some_is new f l) (past m)
        | false ↦ λ l. k.later h m f l
      ];
      identity = k.identity;
    }
  where
    new : Fetched
    new = record { number = n; set = set; props = p; moment = moment_of o }

pub kept-told : (o : Origin) (holds_it : Type 0) (copied : ℕ → ℕ) (job : Job) (question : Question) → JobKept o holds_it copied job → ((m : ℕ) → copied m ≤ moment_of o) → IsTrueAnswer o question → JobKept o holds_it copied (told o job question)
kept-told o holds_it copied job Identity k past t = record { fetched = k.fetched; later = k.later; identity = λ u e. sym (some_is o.identity u e) }
kept-told o holds_it copied job Latest k past t = record { fetched = k.fetched; later = k.later; identity = k.identity }
kept-told o holds_it copied job (Fetch n set) k past t =
    elim (map_at o (moment_of o) n) as (λ s. map_at o (moment_of o) n ≡ s → JobKept o holds_it copied (option_map_or (λ p. with_fetched job n (Some set) p (moment_of o)) s job)) [
      | None ↦ λ e. k
      | Some p ↦ λ e. fetched-now o holds_it copied job n (Some set) p k past e (λ s same. subst (λ q. Makes o n q) (some_is set s same) t)
    ] refl
kept-told o holds_it copied job (FetchProps n) k past t =
    elim (map_at o (moment_of o) n) as (λ s. map_at o (moment_of o) n ≡ s → JobKept o holds_it copied (option_map_or (λ p. with_fetched job n None p (moment_of o)) s job)) [
      | None ↦ λ e. k
      | Some p ↦ λ e. fetched-now o holds_it copied job n None p k past e (λ s same. none_isnt s same)
    ] refl

pub kept-refused : (o : Origin) (holds_it : Type 0) (copied : ℕ → ℕ) (job : Job) (call : Call) → JobKept o holds_it copied job → JobKept o holds_it copied (refused_to job call)
kept-refused o h copied job (Init url uuid props) k = record { fetched = k.fetched; later = k.later; identity = k.identity }
kept-refused o h copied job (TakeLock token) k = record { fetched = k.fetched; later = k.later; identity = k.identity }
kept-refused o h copied job (StealLock token) k = record { fetched = k.fetched; later = k.later; identity = k.identity }
kept-refused o h copied job ReleaseLock k = record { fetched = k.fetched; later = k.later; identity = k.identity }
kept-refused o h copied job (SetCopying n) k = k
kept-refused o h copied job (Commit n set props) k = k
kept-refused o h copied job (PutProps n props) k = k
kept-refused o h copied job (SetMerged n) k = k
kept-refused o h copied job ClearCopying k = k
kept-refused o h copied job Look k = k

-- the moments after a lawful call: one number's is when its map was fetched
record Stamp (o : Origin) (copied : ℕ → ℕ) (job : Job) (n : ℕ) : Type 0 where
  at : Fetched
  last : last_fetch job.fetched n ≡ Some at
  when : moment_for job n ≡ at.moment
  by_now : at.moment ≤ moment_of o

stamp : (o : Origin) (jobs : List (Option Job)) (holder : Option ℕ) (copied : ℕ → ℕ) (seat : ℕ) (job : Job) (n : ℕ) (p : PropMap) → JobsKept o jobs holder copied → job_at jobs seat ≡ Some job → GivesMap job.fetched n p → Stamp o copied job n
stamp o jobs holder copied seat job n p k runs g =
    record {
      at = g.it;
      last = g.last;
      when = ap (λ s. option_map_or (λ (h : Fetched). h.moment) s 0) g.last;
      by_now = (k.fetched seat job runs n g.it g.last).by_now;
    }

stamped-past : (o : Origin) (copied : ℕ → ℕ) (job : Job) (n : ℕ) → ((m : ℕ) → copied m ≤ moment_of o) → Stamp o copied job n → (m : ℕ) → stamped copied job n m ≤ moment_of o
stamped-past o copied job n past s m =
    elim (m == n) as (λ b. (if b then moment_for job n else copied m) ≤ moment_of o) [
      | true ↦ let a = s.when in let c = s.by_now in omega arith
      | false ↦ past m
    ]

stamped-later : (o : Origin) (copied : ℕ → ℕ) (job : Job) (n : ℕ) → Stamp o copied job n → ((m : ℕ) (f : Fetched) → last_fetch job.fetched m ≡ Some f → copied m ≤ f.moment) → (m : ℕ) (f : Fetched) → last_fetch job.fetched m ≡ Some f → stamped copied job n m ≤ f.moment
stamped-later o copied job n s later m f l =
    elim (m == n) as (λ b. (m == n) ≡ b → (if b then moment_for job n else copied m) ≤ f.moment) [
      | true ↦ λ e.
          let same : s.at ≡ f = some_is s.at f (sym s.last ∙ ap (last_fetch job.fetched) (sym (is_equal m n e)) ∙ l) in
          let w : (s.at).moment ≡ f.moment = ap (λ (g : Fetched). g.moment) same in
          let a = s.when in omega arith
      | false ↦ λ e. later m f l
    ] refl

-- the holder puts a map
jobs-stamped :
    (o : Origin) (jobs : List (Option Job)) (holder : Option ℕ) (copied : ℕ → ℕ) (seat : ℕ) (job after : Job) (n : ℕ) (p : PropMap)
    → JobsKept o jobs holder copied → job_at jobs seat ≡ Some job → holder ≡ Some seat → GivesMap job.fetched n p → after.fetched ≡ job.fetched → after.identity ≡ job.identity
    → JobsKept o (slice_set jobs seat (Some after)) holder (stamped copied job n)
jobs-stamped o jobs holder copied seat job after n p k runs is g same_fetched same_identity =
    let s = stamp o jobs holder copied seat job n p k runs g in
    jobs-set o jobs holder holder copied (stamped copied job n) seat after k (stamped-past o copied job n k.past s)
    (record {
      fetched = λ m f l. k.fetched seat job runs m f (ap (λ fs. last_fetch fs m) (sym same_fetched) ∙ l);
      later = λ h m f l. stamped-later o copied job n s (k.later seat job runs is) m f (ap (λ fs. last_fetch fs m) (sym same_fetched) ∙ l);
      identity = λ u e. k.identity seat job runs u (sym same_identity ∙ e);
    })
    (λ i other h. let e : seat ≡ i = some_is seat i (sym is ∙ h) in absurd (other (sym e)))

-- a lock that is taken: nothing was fetched since
jobs-locked :
    (o : Origin) (jobs : List (Option Job)) (holder : Option ℕ) (copied : ℕ → ℕ) (seat : ℕ) (job after : Job)
    → JobsKept o jobs holder copied → job_at jobs seat ≡ Some job → after.fetched ≡ [] → after.identity ≡ job.identity
    → JobsKept o (slice_set jobs seat (Some after)) (Some seat) copied
jobs-locked o jobs holder copied seat job after k runs none same_identity =
    jobs-set o jobs holder (Some seat) copied copied seat after k k.past
    (record {
      fetched = λ m f l. none_isnt f (ap (λ fs. last_fetch fs m) (sym none) ∙ l);
      later = λ h m f l. none_isnt f (ap (λ fs. last_fetch fs m) (sym none) ∙ l);
      identity = λ u e. k.identity seat job runs u (sym same_identity ∙ e);
    })
    (λ i other h. absurd (other (sym (some_is seat i h))))

pub holder_by : (m : Mirror) (seat : ℕ) (rest : Option Need) → refuse_if (not (holds m.holder seat)) need.NotHolder rest ≡ None → m.holder ≡ Some seat
holder_by m seat rest e = holder_is m.holder seat (not_false (holds m.holder seat) (passes (not (holds m.holder seat)) need.NotHolder rest e).0)

-- the jobs after a call that is accepted
pub jobs-done :
    (o : Origin) (m : Mirror) (jobs : List (Option Job)) (copied : ℕ → ℕ) (seat : ℕ) (job : Job) (call : Call)
    → JobsKept o jobs m.holder copied → ((i : ℕ) → m.holder ≡ Some i → has_url m.revisions ≡ true) → job_at jobs seat ≡ Some job → Lawful job call → refusal m seat call ≡ None
    → JobsKept o (slice_set jobs seat (Some (answered job call (granted m call)))) (holder_after m.holder seat call) (copied_after copied job call)
jobs-done o m jobs copied seat job (Init url uuid props) k held runs lawful free =
    let no_url : has_url m.revisions ≡ false = (passes (is_some (standing_of m.revisions).url) need.AlreadyInitialised (refuse_if (not ((standing_of m.revisions).head == 0)) need.NotEmpty None) (no_need m seat (Init url uuid props) free)).0 in
    let s = stamp o jobs m.holder copied seat job 0 props k runs lawful.gives in
    jobs-set o jobs m.holder m.holder copied (stamped copied job 0) seat (done_by job (Init url uuid props)) k (stamped-past o copied job 0 k.past s)
    (record {
      fetched = k.fetched seat job runs;
      later = λ h. let e : true ≡ false = sym (held seat h) ∙ no_url in absurd (cc);
      identity = k.identity seat job runs;
    })
    (λ i other h. let e : true ≡ false = sym (held i h) ∙ no_url in absurd (cc))
jobs-done o m jobs copied seat job (TakeLock token) k held runs lawful free = jobs-locked o jobs m.holder copied seat job (done_by job (TakeLock token)) k runs refl refl
jobs-done o m jobs copied seat job (StealLock token) k held runs lawful free = jobs-locked o jobs m.holder copied seat job (done_by job (StealLock token)) k runs refl refl
jobs-done o m jobs copied seat job ReleaseLock k held runs lawful free =
    jobs-set o jobs m.holder None copied copied seat (done_by job ReleaseLock) k k.past
    (record { fetched = k.fetched seat job runs; later = λ h. none_isnt seat h; identity = k.identity seat job runs })
    (λ i other h. none_isnt i h)
jobs-done o m jobs copied seat job (SetCopying n) k held runs lawful free =
    jobs-hear o jobs m.holder copied seat (done_by job (SetCopying n)) k (record { fetched = k.fetched seat job runs; later = k.later seat job runs; identity = k.identity seat job runs })
jobs-done o m jobs copied seat job (Commit n set props) k held runs lawful free =
    let g : GivesSet job.fetched n set props = lawful.gives in
    jobs-stamped o jobs m.holder copied seat job (done_by job (Commit n set props)) n props k runs (holder_by m seat _ (no_need m seat (Commit n set props) free)) (record { it = g.it; last = g.last; the_map = g.the_map }) refl refl
jobs-done o m jobs copied seat job (PutProps n props) k held runs lawful free =
    jobs-stamped o jobs m.holder copied seat job (done_by job (PutProps n props)) n props k runs (holder_by m seat _ (no_need m seat (PutProps n props) free)) lawful.gives refl refl
jobs-done o m jobs copied seat job (SetMerged n) k held runs lawful free =
    jobs-hear o jobs m.holder copied seat (done_by job (SetMerged n)) k (record { fetched = k.fetched seat job runs; later = k.later seat job runs; identity = k.identity seat job runs })
jobs-done o m jobs copied seat job ClearCopying k held runs lawful free =
    jobs-hear o jobs m.holder copied seat (done_by job ClearCopying) k (record { fetched = k.fetched seat job runs; later = k.later seat job runs; identity = k.identity seat job runs })
jobs-done o m jobs copied seat job Look k held runs lawful free =
    jobs-hear o jobs m.holder copied seat (answered job Look (granted m Look)) k (record { fetched = k.fetched seat job runs; later = k.later seat job runs; identity = k.identity seat job runs })

-- a mirror without jobs
pub jobs-none : (o : Origin) (copied : ℕ → ℕ) → ((n : ℕ) → copied n ≤ moment_of o) → JobsKept o [] None copied
jobs-none o copied past =
    record {
      past = past;
      fetched = λ i j e. none_isnt j e;
      later = λ i j e. none_isnt j e;
      identity = λ i j e. none_isnt j e;
    }

stamped-rises : (o : Origin) (jobs : List (Option Job)) (holder : Option ℕ) (copied : ℕ → ℕ) (seat : ℕ) (job : Job) (n : ℕ) (p : PropMap) → JobsKept o jobs holder copied → job_at jobs seat ≡ Some job → GivesMap job.fetched n p → ((f : Fetched) → last_fetch job.fetched n ≡ Some f → copied n ≤ f.moment) → (m : ℕ) → copied m ≤ stamped copied job n m
stamped-rises o jobs holder copied seat job n p k runs g before m =
    elim (m == n) as (λ b. (m == n) ≡ b → copied m ≤ (if b then moment_for job n else copied m)) [
      | true ↦ λ e.
          let s = stamp o jobs holder copied seat job n p k runs g in
          let w : moment_for job n ≡ (s.at).moment = s.when in
          let l : copied n ≤ (s.at).moment = before s.at s.last in
          let same : copied m ≡ copied n = ap copied (is_equal m n e) in
          omega arith
      | false ↦ λ e. le_refl (copied m)
    ] refl

-- no lawful call lets a moment fall
pub moments-rise :
    (o : Origin) (m : Mirror) (jobs : List (Option Job)) (copied : ℕ → ℕ) (seat : ℕ) (job : Job) (call : Call)
    → JobsKept o jobs m.holder copied → (has_url m.revisions ≡ false → (n : ℕ) → copied n ≡ 0) → job_at jobs seat ≡ Some job → Lawful job call → refusal m seat call ≡ None → (n : ℕ) → copied n ≤ copied_after copied job call n
moments-rise o m jobs copied seat job (Init url uuid props) k new runs lawful free n =
    let no_url : has_url m.revisions ≡ false = (passes (is_some (standing_of m.revisions).url) need.AlreadyInitialised (refuse_if (not ((standing_of m.revisions).head == 0)) need.NotEmpty None) (no_need m seat (Init url uuid props) free)).0 in
    stamped-rises o jobs m.holder copied seat job 0 props k runs lawful.gives (λ f l. let e : copied 0 ≡ 0 = new no_url 0 in omega arith) n
moments-rise o m jobs copied seat job (Commit i set props) k new runs lawful free n =
    let g : GivesSet job.fetched i set props = lawful.gives in
    stamped-rises o jobs m.holder copied seat job i props k runs (record { it = g.it; last = g.last; the_map = g.the_map }) (k.later seat job runs (holder_by m seat _ (no_need m seat (Commit i set props) free)) i) n
moments-rise o m jobs copied seat job (PutProps i props) k new runs lawful free n = stamped-rises o jobs m.holder copied seat job i props k runs lawful.gives (k.later seat job runs (holder_by m seat _ (no_need m seat (PutProps i props) free)) i) n
moments-rise o m jobs copied seat job (TakeLock token) k new runs lawful free n = le_refl (copied n)
moments-rise o m jobs copied seat job (StealLock token) k new runs lawful free n = le_refl (copied n)
moments-rise o m jobs copied seat job ReleaseLock k new runs lawful free n = le_refl (copied n)
moments-rise o m jobs copied seat job (SetCopying i) k new runs lawful free n = le_refl (copied n)
moments-rise o m jobs copied seat job (SetMerged i) k new runs lawful free n = le_refl (copied n)
moments-rise o m jobs copied seat job ClearCopying k new runs lawful free n = le_refl (copied n)
moments-rise o m jobs copied seat job Look k new runs lawful free n = le_refl (copied n)
