-- A mirror and its jobs through every happening, and through the master's own steps.
use Rattle.std.proofs.Common.{◌≡◌, ◌≢◌, ◌⊎◌, inl, inr, ℕ, ◌+◌, ◌<◌, ◌≤◌, ◌==◌, Bool, true, false, not, List, [], ◌∷◌, ◌++◌, length, slice_get, if◌then◌else◌, Option, Some, None, is_some, is_none, le_trans, le_refl, ◌&&◌, refl, sym, ap, ◌∙◌, subst, arith, length-append, length-set}
use Rattle.std.specs.Option.{option_map_or}
use Rattle.std.specs.FinMap.{get, empty, get-empty}
use Rattle.node_base.specs.Path.{Name, name_cmp}
use Rattle.node_base.specs.Props.{PropMap, without_sync, copied_beside}
use Rattle.dump_load.specs.Trees.{effect_tree}
use Rattle.repo_core.specs.declared.entry.Entry.{Entry}
use Rattle.repo_core.specs.declared.entry.Entry.TheVariants.{Revised, Mapped}
use Rattle.repo_core.specs.Repository.{Revision, trees_of, head_of, props_at, root_alone}
use Rattle.repo_core.specs.Entries.{with_entry}
use Rattle.sync_core.specs.declared.need.Need.TheVariants as need
use Rattle.sync_core.specs.Names.{url_name, is_number, is_absent, precedes}
use Rattle.sync_core.specs.Mirror.{standing_of, Call, Init, TakeLock, StealLock, ReleaseLock, SetCopying, Commit, PutProps, SetMerged, ClearCopying, Look, first_map, entry_of, refusal, holder_after}
use Rattle.sync_core.specs.Jobs.{Fetched, Job, begun, last_fetch, Lawful, refused_to}
use Rattle.sync_core.specs.World.{Origin, moment_of, Room, Happening, Begin, Ask, Make, Starve, Leave, Read, Stop, StopAfter, job_at, IsCallOf, MayHappen, told, acknowledged_after, stands, hears, does, made, stopped, holder_left, room_after}
use Rattle.sync_core.proofs.Lists.{some_is, none_isnt}
use Rattle.sync_core.proofs.Kept.{refuse_if, Kept, RoomKept, IsFetched, has_url, passes, no_need, is_equal, itself, both, number_is}
use Rattle.sync_core.proofs.Writes.{first_map-url, copied_beside-own, is_sync-url}
use Rattle.sync_core.proofs.Revisions.{IsSyncWrite, zeroth_of, props-there, props-elsewhere}
use Rattle.sync_core.proofs.Calls.{lock-write, unlock-write, copying-write, merged-write, clear-write}
use Rattle.sync_core.proofs.Stands.{kept-stands, turn_of}
use Rattle.sync_core.proofs.Jobs.{jobs-hear, jobs-done, jobs-none, holder_by, moments-rise, job-stored, job-pushed, JobKept, at_seat, kept-told, kept-refused}

-- no call makes the head fall
head-rises : (x : List Revision) (e : Entry) → head_of x ≤ head_of (with_entry x e)
head-rises x (Revised n set props) = omega (arith, length-append x (record { tree = effect_tree (trees_of x) set; props = props } ∷ []))
head-rises x (Mapped n props) = omega (arith, length-set x n (record { tree = option_map_or (λ y. y.tree) (slice_get x n) root_alone; props = props }))

stands-head : (room : Room) (seat : ℕ) (job : Job) (call : Call) → head_of room.mirror.revisions ≤ head_of (stands room seat job call).mirror.revisions
stands-head room seat job call = go (entry_of room.mirror.revisions call)
  where
    go : (e : Option Entry) → head_of room.mirror.revisions ≤ head_of (option_map_or (with_entry room.mirror.revisions) e room.mirror.revisions)
    go None = omega arith
    go (Some e) = head-rises room.mirror.revisions e

-- a job hears something
hearing : (o : Origin) (shaped : Bool) (room : Room) (seat : ℕ) (job : Job) → RoomKept o shaped room → JobKept o (room.mirror.holder ≡ Some seat) room.copied job → RoomKept o shaped (hears room seat job)
hearing o shaped room seat job k own =
    record {
      revisions = k.revisions;
      jobs = jobs-hear o room.jobs room.mirror.holder room.copied seat job k.jobs own;
      new = k.new;
      held = k.held;
      acknowledged = k.acknowledged;
      shown = k.shown;
    }

-- an initialised mirror stays so
url-sync : (o : Origin) (shaped : Bool) (x : List Revision) (p : PropMap) → 0 < length x → IsSyncWrite o shaped x p → has_url (with_entry x (Mapped 0 p)) ≡ has_url x
url-sync o shaped x p some w = let f = zeroth_of x some in ap (λ q. is_some (get q url_name)) (props-there x 0 f.0 p f.1) ∙ ap is_some w.url

url-put : (x : List Revision) (n : ℕ) (p : PropMap) → has_url x ≡ true → 0 < length x → has_url (with_entry x (Mapped n (copied_beside (props_at x n) p))) ≡ true
url-put x n p h some =
    elim (0 == n) as (λ b. (0 == n) ≡ b → has_url (with_entry x (Mapped n (copied_beside (props_at x n) p))) ≡ true) [
      | true ↦ λ e.
          let z : 0 ≡ n = is_equal 0 n e in
          let f = zeroth_of x some in
          subst (λ i. has_url (with_entry x (Mapped i (copied_beside (props_at x i) p))) ≡ true) z
          (ap (λ q. is_some (get q url_name)) (props-there x 0 f.0 (copied_beside (props_at x 0) p) f.1) ∙ ap is_some (copied_beside-own (props_at x 0) p url_name is_sync-url) ∙ h)
      | false ↦ λ e. ap (λ q. is_some (get q url_name)) (props-elsewhere x n (copied_beside (props_at x n) p) 0 (λ z. let b : (0 == n) ≡ true = ap (λ i. 0 == i) (sym z) ∙ itself 0 in cc)) ∙ h
    ] refl

url-commit : (x : List Revision) (r : Revision) → has_url x ≡ true → has_url (x ++ r ∷ []) ≡ true
url-commit [] r h = absurd (let e : is_some (get (empty {X = List ℕ} {R = name_cmp}) url_name) ≡ false = ap is_some (get-empty name_cmp url_name) in let f : true ≡ false = sym h ∙ e in cc)
url-commit (y ∷ x) r h = h

is_there : (o : Option Name) → is_none o ≡ false → is_some o ≡ true
is_there None e = absurd (cc)
is_there (Some y) e = refl

-- a holder's mirror is initialised
held-after : (o : Origin) (shaped : Bool) (room : Room) (seat : ℕ) (job : Job) (call : Call) → RoomKept o shaped room → refusal room.mirror seat call ≡ None → (i : ℕ) → holder_after room.mirror.holder seat call ≡ Some i → has_url (stands room seat job call).mirror.revisions ≡ true
held-after o shaped room seat job (Init url uuid props) k free i h =
    let no_url : has_url room.mirror.revisions ≡ false = (passes (is_some (standing_of room.mirror.revisions).url) need.AlreadyInitialised (refuse_if (not ((standing_of room.mirror.revisions).head == 0)) need.NotEmpty None) (no_need room.mirror seat (Init url uuid props) free)).0 in
    let e : true ≡ false = sym (k.held i h) ∙ no_url in absurd (cc)
held-after o shaped room seat job (TakeLock token) k free i h =
    url-sync o shaped room.mirror.revisions _ k.revisions.some (lock-write o shaped room.mirror.revisions room.journal room.copied token k.revisions)
    ∙ is_there (standing_of room.mirror.revisions).url (passes (is_none (standing_of room.mirror.revisions).url) need.NotInitialised _ (no_need room.mirror seat (TakeLock token) free)).0
held-after o shaped room seat job (StealLock token) k free i h =
    url-sync o shaped room.mirror.revisions _ k.revisions.some (lock-write o shaped room.mirror.revisions room.journal room.copied token k.revisions)
    ∙ is_there (standing_of room.mirror.revisions).url (passes (is_none (standing_of room.mirror.revisions).url) need.NotInitialised _ (no_need room.mirror seat (StealLock token) free)).0
held-after o shaped room seat job ReleaseLock k free i h = none_isnt i h
held-after o shaped room seat job (SetCopying n) k free i h =
    let x : List Revision = room.mirror.revisions in
    let t = turn_of room seat _ _ (no_need room.mirror seat (SetCopying n) free) in
    let a = both (is_absent (standing_of x).copying && is_number (standing_of x).merged (head_of x)) (n == head_of x + 1) t.turn in
    let b = both (is_absent (standing_of x).copying) (is_number (standing_of x).merged (head_of x)) a.0 in
    url-sync o shaped x _ k.revisions.some (copying-write o shaped x n k.revisions.small k.revisions.some (number_is (standing_of x).merged (head_of x) b.1) (is_equal n (head_of x + 1) a.1)) ∙ k.held i h
held-after o shaped room seat job (Commit n set props) k free i h = url-commit room.mirror.revisions _ (k.held i h)
held-after o shaped room seat job (PutProps n props) k free i h = url-put room.mirror.revisions n props (k.held i h) k.revisions.some
held-after o shaped room seat job (SetMerged n) k free i h =
    let x : List Revision = room.mirror.revisions in
    let t = turn_of room seat _ _ (no_need room.mirror seat (SetMerged n) free) in
    let a = both (is_number (standing_of x).copying n && (n == head_of x)) (precedes (standing_of x).merged n) t.turn in
    let b = both (is_number (standing_of x).copying n) (n == head_of x) a.0 in
    url-sync o shaped x _ k.revisions.some (merged-write o shaped x n k.revisions.small k.revisions.some (number_is (standing_of x).copying n b.0) (is_equal n (head_of x) b.1)) ∙ k.held i h
held-after o shaped room seat job ClearCopying k free i h =
    let x : List Revision = room.mirror.revisions in
    let t = turn_of room seat _ _ (no_need room.mirror seat ClearCopying free) in
    let a = both (is_number (standing_of x).copying (head_of x)) (is_number (standing_of x).merged (head_of x)) t.turn in
    url-sync o shaped x _ k.revisions.some (clear-write o shaped x (number_is (standing_of x).merged (head_of x) a.1)) ∙ k.held i h
held-after o shaped room seat job Look k free i h = k.held i h

-- where a mirror isn't initialised after a call, the call was a look
only-look : (o : Origin) (shaped : Bool) (room : Room) (seat : ℕ) (job : Job) (call : Call) → RoomKept o shaped room → refusal room.mirror seat call ≡ None → has_url (stands room seat job call).mirror.revisions ≡ false → call ≡ Look
only-look o shaped room seat job Look k free e = refl
only-look o shaped room seat job (Init url uuid props) k free e =
    let f = zeroth_of room.mirror.revisions k.revisions.some in
    let there : has_url (stands room seat job (Init url uuid props)).mirror.revisions ≡ true = ap (λ q. is_some (get q url_name)) (props-there room.mirror.revisions 0 f.0 (first_map url uuid props) f.1) ∙ ap is_some (first_map-url url uuid props) in
    let c : true ≡ false = sym there ∙ e in absurd (cc)
only-look o shaped room seat job ReleaseLock k free e =
    let x : List Revision = room.mirror.revisions in
    let there : has_url (stands room seat job ReleaseLock).mirror.revisions ≡ true = url-sync o shaped x _ k.revisions.some (unlock-write o shaped x room.journal room.copied k.revisions) ∙ k.held seat (holder_by room.mirror seat None (no_need room.mirror seat ReleaseLock free)) in
    let c : true ≡ false = sym there ∙ e in absurd (cc)
only-look o shaped room seat job (TakeLock token) k free e = let c : true ≡ false = sym (held-after o shaped room seat job (TakeLock token) k free seat refl) ∙ e in absurd (cc)
only-look o shaped room seat job (StealLock token) k free e = let c : true ≡ false = sym (held-after o shaped room seat job (StealLock token) k free seat refl) ∙ e in absurd (cc)
only-look o shaped room seat job (SetCopying m) k free e = let c : true ≡ false = sym (held-after o shaped room seat job (SetCopying m) k free seat (holder_by room.mirror seat _ (no_need room.mirror seat (SetCopying m) free))) ∙ e in absurd (cc)
only-look o shaped room seat job (Commit m set props) k free e = let c : true ≡ false = sym (held-after o shaped room seat job (Commit m set props) k free seat (holder_by room.mirror seat _ (no_need room.mirror seat (Commit m set props) free))) ∙ e in absurd (cc)
only-look o shaped room seat job (PutProps m props) k free e = let c : true ≡ false = sym (held-after o shaped room seat job (PutProps m props) k free seat (holder_by room.mirror seat _ (no_need room.mirror seat (PutProps m props) free))) ∙ e in absurd (cc)
only-look o shaped room seat job (SetMerged m) k free e = let c : true ≡ false = sym (held-after o shaped room seat job (SetMerged m) k free seat (holder_by room.mirror seat _ (no_need room.mirror seat (SetMerged m) free))) ∙ e in absurd (cc)
only-look o shaped room seat job ClearCopying k free e = let c : true ≡ false = sym (held-after o shaped room seat job ClearCopying k free seat (holder_by room.mirror seat _ (no_need room.mirror seat ClearCopying free))) ∙ e in absurd (cc)

-- so it copied nothing, and changed nothing
new-after : (o : Origin) (shaped : Bool) (room : Room) (seat : ℕ) (job : Job) (call : Call) → RoomKept o shaped room → refusal room.mirror seat call ≡ None → has_url (stands room seat job call).mirror.revisions ≡ false → (n : ℕ) → (stands room seat job call).copied n ≡ 0
new-after o shaped room seat job call k free e n =
    subst (λ c. has_url (stands room seat job c).mirror.revisions ≡ false → (stands room seat job c).copied n ≡ 0) (sym (only-look o shaped room seat job call k free e)) (λ f. k.new f n) e

blank-after : (o : Origin) (shaped : Bool) (room : Room) (seat : ℕ) (job : Job) (call : Call) → RoomKept o shaped room → refusal room.mirror seat call ≡ None → has_url (stands room seat job call).mirror.revisions ≡ false → (stands room seat job call).mirror.revisions ≡ room.mirror.revisions
blank-after o shaped room seat job call k free e = subst (λ c. (stands room seat job c).mirror.revisions ≡ room.mirror.revisions) (sym (only-look o shaped room seat job call k free e)) refl

-- the commit's number is the new head
commit-head : (o : Origin) (shaped : Bool) (room : Room) (seat : ℕ) (job : Job) (call : Call) → RoomKept o shaped room → refusal room.mirror seat call ≡ None → acknowledged_after room.acknowledged call ≤ head_of (stands room seat job call).mirror.revisions
commit-head o shaped room seat job (Commit n set props) k free =
    let x : List Revision = room.mirror.revisions in
    let t = turn_of room seat _ _ (no_need room.mirror seat (Commit n set props) free) in
    let a = both (is_number (standing_of x).copying n && is_number (standing_of x).merged (head_of x)) (n == head_of x + 1) t.turn in
    let e : n ≡ head_of x + 1 = is_equal n (head_of x + 1) a.1 in
    let some : 0 < length x = k.revisions.some in
    let told : room.acknowledged ≤ head_of x = k.acknowledged in
    omega (arith, length-append x (record { tree = effect_tree (trees_of x) set; props = without_sync props } ∷ []))
commit-head o shaped room seat job (Init url uuid props) k free = le_trans k.acknowledged (stands-head room seat job (Init url uuid props))
commit-head o shaped room seat job (TakeLock token) k free = le_trans k.acknowledged (stands-head room seat job (TakeLock token))
commit-head o shaped room seat job (StealLock token) k free = le_trans k.acknowledged (stands-head room seat job (StealLock token))
commit-head o shaped room seat job ReleaseLock k free = le_trans k.acknowledged (stands-head room seat job ReleaseLock)
commit-head o shaped room seat job (SetCopying n) k free = le_trans k.acknowledged (stands-head room seat job (SetCopying n))
commit-head o shaped room seat job (PutProps n props) k free = le_trans k.acknowledged (stands-head room seat job (PutProps n props))
commit-head o shaped room seat job (SetMerged n) k free = le_trans k.acknowledged (stands-head room seat job (SetMerged n))
commit-head o shaped room seat job ClearCopying k free = le_trans k.acknowledged (stands-head room seat job ClearCopying)
commit-head o shaped room seat job Look k free = k.acknowledged

-- a call that is made
kept-made : (o : Origin) (shaped : Bool) (room : Room) (seat : ℕ) (job : Job) (call : Call) → RoomKept o shaped room → job_at room.jobs seat ≡ Some job → Lawful job call → RoomKept o shaped (made room seat call job)
kept-made o shaped room seat job call k runs lawful =
    elim (refusal room.mirror seat call) as (λ s. refusal room.mirror seat call ≡ s → RoomKept o shaped (if is_some s then hears room seat (refused_to job call) else does room seat job call)) [
      | None ↦ λ free. record {
        revisions = kept-stands o shaped room seat job call k runs lawful free;
        jobs = jobs-done o room.mirror room.jobs room.copied seat job call k.jobs k.held runs lawful free;
        new = new-after o shaped room seat job call k free;
        held = held-after o shaped room seat job call k free;
        acknowledged = commit-head o shaped room seat job call k free;
        shown = le_trans k.shown (stands-head room seat job call);
      }
      | Some why ↦ λ no. hearing o shaped room seat (refused_to job call) k (kept-refused o (room.mirror.holder ≡ Some seat) room.copied job call (at_seat o room.jobs room.mirror.holder room.copied seat job k.jobs runs))
    ] refl

-- a mirror that stops
kept-stopped : (o : Origin) (shaped : Bool) (room : Room) → Kept o shaped room.mirror.revisions room.journal room.copied → (has_url room.mirror.revisions ≡ false → (n : ℕ) → room.copied n ≡ 0) → ((n : ℕ) → room.copied n ≤ moment_of o) → room.acknowledged ≤ head_of room.mirror.revisions → room.shown ≤ head_of room.mirror.revisions → RoomKept o shaped (stopped room)
kept-stopped o shaped room k new past told shown =
    record {
      revisions = k;
      jobs = jobs-none o room.copied past;
      new = new;
      held = λ i h. none_isnt i h;
      acknowledged = told;
      shown = shown;
    }

holder_stays : (holder : Option ℕ) (seat i : ℕ) → holder_left holder seat ≡ Some i → (i ≢ seat) × (holder ≡ Some i)
holder_stays None seat i e = none_isnt i e
holder_stays (Some k) seat i e =
    elim (k == seat) as (λ b. (k == seat) ≡ b → (if b then None else Some k) ≡ Some i → (i ≢ seat) × ((Some k) ≡ Some i)) [
      | true ↦ λ a f. none_isnt i f
      | false ↦ λ a f. (λ same. let b : (k == seat) ≡ true = ap (λ j. j == seat) (some_is k i f ∙ same) ∙ itself seat in let c : true ≡ false = sym b ∙ a in absurd (cc), f)
    ] refl e

-- whatever happens at a mirror
pub kept-room : (o : Origin) (shaped : Bool) (room : Room) (what : Happening) → RoomKept o shaped room → MayHappen o room what → RoomKept o shaped (room_after o room what)
kept-room o shaped room (Begin order) k may =
    record {
      revisions = k.revisions;
      jobs = record {
        past = k.jobs.past;
        fetched = λ i j runs. a_fetched i j (job-pushed room.jobs (Some (begun order)) i j runs);
        later = λ i j runs h. a_later i j h (job-pushed room.jobs (Some (begun order)) i j runs);
        identity = λ i j runs. a_identity i j (job-pushed room.jobs (Some (begun order)) i j runs);
      };
      new = k.new;
      held = k.held;
      acknowledged = k.acknowledged;
      shown = k.shown;
    }
  where
    a_fetched : (i : ℕ) (j : Job) → (Some (begun order) ≡ Some j) ⊎ (job_at room.jobs i ≡ Some j) → (n : ℕ) (f : Fetched) → last_fetch j.fetched n ≡ Some f → IsFetched o n f
    a_fetched i j (inl p) n f l = none_isnt f (ap (λ (z : Job). last_fetch z.fetched n) (some_is (begun order) j p) ∙ l)
    a_fetched i j (inr p) n f l = k.jobs.fetched i j p n f l

    a_later : (i : ℕ) (j : Job) → room.mirror.holder ≡ Some i → (Some (begun order) ≡ Some j) ⊎ (job_at room.jobs i ≡ Some j) → (n : ℕ) (f : Fetched) → last_fetch j.fetched n ≡ Some f → room.copied n ≤ f.moment
    a_later i j h (inl p) n f l = none_isnt f (ap (λ (z : Job). last_fetch z.fetched n) (some_is (begun order) j p) ∙ l)
    a_later i j h (inr p) n f l = k.jobs.later i j p h n f l

    a_identity : (i : ℕ) (j : Job) → (Some (begun order) ≡ Some j) ⊎ (job_at room.jobs i ≡ Some j) → (u : Name) → j.identity ≡ Some u → u ≡ o.identity
    a_identity i j (inl p) u e = none_isnt u (ap (λ (z : Job). z.identity) (some_is (begun order) j p) ∙ e)
    a_identity i j (inr p) u e = k.jobs.identity i j p u e
kept-room o shaped room (Ask seat question) k may =
    elim (job_at room.jobs seat) as (λ s. job_at room.jobs seat ≡ s → RoomKept o shaped (option_map_or (λ job. hears room seat (told o job question)) s room)) [
      | None ↦ λ e. k
      | Some job ↦ λ e. hearing o shaped room seat (told o job question) k (kept-told o (room.mirror.holder ≡ Some seat) room.copied job question (at_seat o room.jobs room.mirror.holder room.copied seat job k.jobs e) k.jobs.past may)
    ] refl
kept-room o shaped room (Make seat call) k may = rw may.runs (kept-made o shaped room seat may.job call k may.runs may.lawful)
kept-room o shaped room (Starve seat call) k may =
    rw may.runs (hearing o shaped room seat (refused_to may.job call) k (kept-refused o (room.mirror.holder ≡ Some seat) room.copied may.job call (at_seat o room.jobs room.mirror.holder room.copied seat may.job k.jobs may.runs)))
kept-room o shaped room (Leave seat) k may =
    record {
      revisions = k.revisions;
      jobs = record {
        past = k.jobs.past;
        fetched = λ i j runs. k.jobs.fetched i j (stays i j (job-stored room.jobs seat None i j runs));
        later = λ i j runs h. k.jobs.later i j (stays i j (job-stored room.jobs seat None i j runs)) (holder_stays room.mirror.holder seat i h).1;
        identity = λ i j runs. k.jobs.identity i j (stays i j (job-stored room.jobs seat None i j runs));
      };
      new = k.new;
      held = λ i h. k.held i (holder_stays room.mirror.holder seat i h).1;
      acknowledged = k.acknowledged;
      shown = k.shown;
    }
  where
    stays : (i : ℕ) (j : Job) → ((i ≡ seat) × (◌≡◌ {A = Option Job} None (Some j))) ⊎ ((i ≢ seat) × (job_at room.jobs i ≡ Some j)) → job_at room.jobs i ≡ Some j
    stays i j (inl p) = none_isnt j p.1
    stays i j (inr p) = p.1
kept-room o shaped room (Read n) k may =
    record { revisions = k.revisions; jobs = k.jobs; new = k.new; held = k.held; acknowledged = k.acknowledged; shown = let s = k.shown in let m : n ≤ head_of room.mirror.revisions = may in omega arith }
kept-room o shaped room Stop k may = kept-stopped o shaped room k.revisions k.new k.jobs.past k.acknowledged k.shown
kept-room o shaped room (StopAfter seat call) k may =
    let is : IsCallOf room seat call = may.0 in
    let free : refusal room.mirror seat call ≡ None = may.1 in
    rw is.runs
    (kept-stopped o shaped (stands room seat is.job call)
    (kept-stands o shaped room seat is.job call k is.runs is.lawful free)
    (new-after o shaped room seat is.job call k free)
    (jobs-done o room.mirror room.jobs room.copied seat is.job call k.jobs k.held is.runs is.lawful free).past
    (le_trans k.acknowledged (stands-head room seat is.job call))
    (le_trans k.shown (stands-head room seat is.job call)))

-- the moments never fall
made-rise : (o : Origin) (shaped : Bool) (room : Room) (seat : ℕ) (job : Job) (call : Call) → RoomKept o shaped room → job_at room.jobs seat ≡ Some job → Lawful job call → refusal room.mirror seat call ≡ None → (n : ℕ) → room.copied n ≤ (stands room seat job call).copied n
made-rise o shaped room seat job call k runs lawful free n = moments-rise o room.mirror room.jobs room.copied seat job call k.jobs k.new runs lawful free n

pub room-rises : (o : Origin) (shaped : Bool) (room : Room) (what : Happening) → RoomKept o shaped room → MayHappen o room what → (n : ℕ) → room.copied n ≤ (room_after o room what).copied n
room-rises o shaped room (Begin order) k may n = omega arith
room-rises o shaped room (Ask seat question) k may n =
    elim (job_at room.jobs seat) as (λ s. room.copied n ≤ (option_map_or (λ job. hears room seat (told o job question)) s room).copied n) [ None ↦ omega arith | Some job ↦ omega arith ]
room-rises o shaped room (Make seat call) k may n =
    rw may.runs
    (elim (refusal room.mirror seat call) as (λ s. refusal room.mirror seat call ≡ s → room.copied n ≤ (if is_some s then hears room seat (refused_to may.job call) else does room seat may.job call).copied n) [
      | None ↦ λ free. made-rise o shaped room seat may.job call k may.runs may.lawful free n
      | Some why ↦ λ no. le_refl (room.copied n)
    ] refl)
room-rises o shaped room (Starve seat call) k may n = rw may.runs (le_refl (room.copied n))
room-rises o shaped room (Leave seat) k may n = le_refl (room.copied n)
room-rises o shaped room (Read m) k may n = le_refl (room.copied n)
room-rises o shaped room Stop k may n = le_refl (room.copied n)
room-rises o shaped room (StopAfter seat call) k may n = let is : IsCallOf room seat call = may.0 in rw is.runs (made-rise o shaped room seat is.job call k is.runs is.lawful may.1 n)

-- a mirror that isn't initialised is as it was
pub room-blank : (o : Origin) (shaped : Bool) (room : Room) (what : Happening) → RoomKept o shaped room → MayHappen o room what → has_url (room_after o room what).mirror.revisions ≡ false → (room_after o room what).mirror.revisions ≡ room.mirror.revisions
room-blank o shaped room (Begin order) k may e = refl
room-blank o shaped room (Ask seat question) k may e =
    elim (job_at room.jobs seat) as (λ s. (option_map_or (λ job. hears room seat (told o job question)) s room).mirror.revisions ≡ room.mirror.revisions) [ None ↦ refl | Some job ↦ refl ]
room-blank o shaped room (Make seat call) k may e = made_blank e
  where
    made_blank : has_url (room_after o room (Make seat call)).mirror.revisions ≡ false → (room_after o room (Make seat call)).mirror.revisions ≡ room.mirror.revisions
    made_blank =
        rw may.runs
        (elim (refusal room.mirror seat call) as (λ s. refusal room.mirror seat call ≡ s → has_url (if is_some s then hears room seat (refused_to may.job call) else does room seat may.job call).mirror.revisions ≡ false → (if is_some s then hears room seat (refused_to may.job call) else does room seat may.job call).mirror.revisions ≡ room.mirror.revisions) [
          | None ↦ λ free h. blank-after o shaped room seat may.job call k free h
          | Some why ↦ λ no h. refl
        ] refl)
room-blank o shaped room (Starve seat call) k may e =
    elim (job_at room.jobs seat) as (λ s. (option_map_or (λ job. hears room seat (refused_to job call)) s room).mirror.revisions ≡ room.mirror.revisions) [ None ↦ refl | Some job ↦ refl ]
room-blank o shaped room (Leave seat) k may e = refl
room-blank o shaped room (Read m) k may e = refl
room-blank o shaped room Stop k may e = refl
room-blank o shaped room (StopAfter seat call) k may e = stopped_blank e
  where
    stopped_blank : has_url (room_after o room (StopAfter seat call)).mirror.revisions ≡ false → (room_after o room (StopAfter seat call)).mirror.revisions ≡ room.mirror.revisions
    stopped_blank = let is : IsCallOf room seat call = may.0 in rw is.runs (λ h. blank-after o shaped room seat is.job call k may.1 h)
