-- A seat that holds a mirror's lock goes on.
use Rattle.std.proofs.Common.{◌≡◌, ◌≢◌, ℕ, ◌<◌, ◌≤◌, nat_lt, true, false, List, [], ◌∷◌, ◌++◌, length, Option, Some, None, is_some, refl, sym, ap, ◌∙◌, arith, length-append}
use Rattle.std.specs.Option.{option_map_or}
use Rattle.std.specs.Fmt.{decimal}
use Rattle.std.specs.FinMap.{get, insert, remove}
use Rattle.node_base.specs.Path.{Name}
use Rattle.node_base.specs.Props.{PropMap, is_sync, without_sync}
use Rattle.dump_load.specs.Trees.{effect_tree}
use Rattle.repo_core.specs.declared.entry.Entry.TheVariants.{Mapped}
use Rattle.repo_core.specs.declared.fault.RepoFault.TheVariants as repo
use Rattle.repo_core.specs.Repository.{Revision, trees_of, props_at}
use Rattle.repo_core.specs.Entries.{with_entry}
use Rattle.sync_core.specs.declared.answer.Answer.{Answer}
use Rattle.sync_core.specs.declared.answer.Answer.TheVariants as answer
use Rattle.sync_core.specs.Names.{url_name, merged_name, copying_name, lock_name, Absent, Spelt}
use Rattle.sync_core.specs.Mirror.{Mirror, standing_of, Call, Init, TakeLock, StealLock, ReleaseLock, SetCopying, Commit, PutProps, SetMerged, ClearCopying, Look, refusal, accepted, granted, revisions_by}
use Rattle.sync_core.specs.Moves.{numbers_of, numbers_after}
use Rattle.sync_core.specs.Jobs.{Job, Begun, Locked, Lawful, done_by, refused_to, answered}
use Rattle.sync_core.specs.Deeds.{Calls, AsksIdentity, AsksLatest, Fetches, FetchesProps, Ends, heard}
use Rattle.sync_core.specs.Holding.{known_by, HasLock, LockIsGiven, HolderIsServed, HolderStays, HolderListens, HolderIsAlone}
use Rattle.sync_core.proofs.Lists.{slice_get-grown}
use Rattle.sync_core.proofs.Writes.{Differ, get-put_there, get-put_other, get-drop_other, url-lock, url-copying, url-merged, lock-copying, lock-merged, is_sync-url, is_sync-lock}
use Rattle.sync_core.proofs.Kept.{passes, no_need, taken, length-mapped}
use Rattle.sync_core.proofs.Revisions.{zeroth_of, none_written}
use Rattle.sync_core.proofs.Stands.{few_of}
use Rattle.sync_core.proofs.Holder.{SameNumbers, Knowing, goes-on, now0, put-same}
use Rattle.sync_core.proofs.HolderRuns.{is-alone}
use Rattle.sync_core.proofs.Table.{meets}
use Rattle.sync_core.proofs.Moves.{calls-move}

knowing : (m : Mirror) (seat : ℕ) (job : Job) → HasLock m seat job → Knowing (standing_of m.revisions) m.holder seat job
knowing m seat job h =
    record {
      holding = λ l. h.holder;
      numbers = λ l e. as_same (h.numbers e);
      blind = λ l e. h.blind e;
      begun = λ b. let f : Locked ≡ Begun = sym h.locked ∙ b in absurd (cc);
    }
  where
    as_same : known_by job ≡ numbers_of (standing_of m.revisions) → SameNumbers job (standing_of m.revisions)
    as_same e = record { merged = ap (λ k. k.merged) e; copying = ap (λ k. k.copying) e; head = ap (λ k. k.head) e }

pub holder-is-served : HolderIsServed
holder-is-served m seat job call h lawful = goes-on (standing_of m.revisions) m.holder seat job call (knowing m seat job h) h.locked lawful

pub holder-is-alone : HolderIsAlone
holder-is-alone m seat other job call h differs free = is-alone m seat other call h.holder h.url h.lock differs free

-- the calls that a holder makes between its lock and its release
abbrev IsWork : Call → Type 0
IsWork (SetCopying n) = Unit {0}
IsWork (Commit n set props) = Unit {0}
IsWork (PutProps n props) = Unit {0}
IsWork (SetMerged n) = Unit {0}
IsWork ClearCopying = Unit {0}
IsWork Look = Unit {0}
IsWork _ = ⊥

abbrev at0 : List Revision → Name → Option Name
at0 x s = get (props_at x 0) s

grown0 : (x : List Revision) (r : Revision) → 0 < length x → props_at (x ++ r ∷ []) 0 ≡ props_at x 0
grown0 x r some = let f = zeroth_of x some in ap (λ v. option_map_or (λ (z : Revision). z.props) v none_written) (slice_get-grown x (r ∷ []) 0 f.0 f.1 ∙ sym f.1)

-- they leave the source and the lock
stays : (x : List Revision) (call : Call) (s : Name) → IsWork call → 0 < length x → is_sync s ≡ true → Differ s copying_name → Differ s merged_name → at0 (revisions_by x call) s ≡ at0 x s
stays x (SetCopying n) s w some y c m = let p : PropMap = insert (props_at x 0) copying_name (decimal n) in ap (λ q. get q s) (now0 x p some) ∙ get-put_other (props_at x 0) copying_name (decimal n) s c
stays x (Commit n set props) s w some y c m = ap (λ q. get q s) (grown0 x (record { tree = effect_tree (trees_of x) set; props = without_sync props }) some)
stays x (PutProps n props) s w some y c m = put-same x n props s some y
stays x (SetMerged n) s w some y c m = let p : PropMap = insert (props_at x 0) merged_name (decimal n) in ap (λ q. get q s) (now0 x p some) ∙ get-put_other (props_at x 0) merged_name (decimal n) s m
stays x ClearCopying s w some y c m = let p : PropMap = remove (props_at x 0) copying_name in ap (λ q. get q s) (now0 x p some) ∙ get-drop_other (props_at x 0) copying_name s c
stays x Look s w some y c m = refl
stays x (Init url uuid props) s w some y c m = absurd w
stays x (TakeLock token) s w some y c m = absurd w
stays x (StealLock token) s w some y c m = absurd w
stays x ReleaseLock s w some y c m = absurd w

abbrev IsSized : List Revision → Type 0
IsSized x = (0 < length x) × (length x ≤ 65536)

mapped_size : (x : List Revision) (n : ℕ) (p : PropMap) → IsSized x → IsSized (with_entry x (Mapped n p))
mapped_size x n p s = let e : length (with_entry x (Mapped n p)) ≡ length x = length-mapped x n p in (rw e s.0, rw e s.1)

pub one_more : (x : List Revision) (r : Revision) → length x ≤ 65535 → IsSized (x ++ r ∷ [])
one_more x r few = let e = length-append x (r ∷ []) in (omega (arith, e), omega (arith, e, few))

sized : (m : Mirror) (seat : ℕ) (call : Call) → refusal m seat call ≡ None → IsSized m.revisions → IsSized (revisions_by m.revisions call)
sized m seat (Init url uuid props) free s = mapped_size m.revisions 0 _ s
sized m seat (TakeLock token) free s = mapped_size m.revisions 0 _ s
sized m seat (StealLock token) free s = mapped_size m.revisions 0 _ s
sized m seat ReleaseLock free s = mapped_size m.revisions 0 _ s
sized m seat (SetCopying n) free s = mapped_size m.revisions 0 _ s
sized m seat (Commit n set props) free s =
    one_more m.revisions (record { tree = effect_tree (trees_of m.revisions) set; props = without_sync props }) (few_of (length m.revisions) (passes (nat_lt 65535 (length m.revisions)) repo.Full _ (taken m seat (Commit n set props) free)).0)
sized m seat (PutProps n props) free s = mapped_size m.revisions n _ s
sized m seat (SetMerged n) free s = mapped_size m.revisions 0 _ s
sized m seat ClearCopying free s = mapped_size m.revisions 0 _ s
sized m seat Look free s = s

-- the mirror's part of what is kept, and the job's
keeps :
    (m : Mirror) (seat : ℕ) (job after : Job) (call : Call) → HasLock m seat job → IsWork call → refusal m seat call ≡ None → (accepted m seat call).holder ≡ Some seat → after.stage ≡ Locked
    → (after.looked ≡ true → known_by after ≡ numbers_of (standing_of (revisions_by m.revisions call))) → (after.looked ≡ false → after.merged ≡ Absent) → HasLock (accepted m seat call) seat after
keeps m seat job after call h w free holder locked numbers blind =
    let s = sized m seat call free (h.some, h.few) in
    record {
      some = s.0;
      few = s.1;
      url = ap is_some (stays m.revisions call url_name w h.some is_sync-url url-copying url-merged) ∙ h.url;
      lock = ap is_some (stays m.revisions call lock_name w h.some is_sync-lock lock-copying lock-merged) ∙ h.lock;
      holder = holder;
      locked = locked;
      numbers = numbers;
      blind = blind;
    }

-- numbers that moved alike
moved : (m : Mirror) (seat : ℕ) (job : Job) (call : Call) → HasLock m seat job → refusal m seat call ≡ None → job.looked ≡ true → numbers_after (known_by job) call ≡ numbers_of (standing_of (revisions_by m.revisions call))
moved m seat job call h free l = ap (λ k. numbers_after k call) (h.numbers l) ∙ sym (calls-move m seat call h.some h.few free)

begun_not : {A : Type 0} (job : Job) → job.stage ≡ Locked → job.stage ≡ Begun → A
begun_not job l b = let f : Locked ≡ Begun = sym l ∙ b in absurd (cc)

accepts : (m : Mirror) (seat : ℕ) (job : Job) (call : Call) → HasLock m seat job → Lawful job call → call ≢ ReleaseLock → refusal m seat call ≡ None → HasLock (accepted m seat call) seat (answered job call (granted m call))
accepts m seat job (Init url uuid props) h lawful other free = begun_not job h.locked lawful.begun
accepts m seat job (TakeLock token) h lawful other free = begun_not job h.locked lawful.begun
accepts m seat job (StealLock token) h lawful other free = begun_not job h.locked lawful.begun
accepts m seat job ReleaseLock h lawful other free = absurd (other refl)
accepts m seat job (SetCopying n) h lawful other free = keeps m seat job (done_by job (SetCopying n)) (SetCopying n) h tt free h.holder h.locked (moved m seat job (SetCopying n) h free) h.blind
accepts m seat job (Commit n set props) h lawful other free = keeps m seat job (done_by job (Commit n set props)) (Commit n set props) h tt free h.holder h.locked (moved m seat job (Commit n set props) h free) h.blind
accepts m seat job (PutProps n props) h lawful other free = keeps m seat job (done_by job (PutProps n props)) (PutProps n props) h tt free h.holder h.locked (moved m seat job (PutProps n props) h free) h.blind
accepts m seat job (SetMerged n) h lawful other free =
    keeps m seat job (done_by job (SetMerged n)) (SetMerged n) h tt free h.holder h.locked (moved m seat job (SetMerged n) h free) (λ l. blank (h.blind l) lawful.committed.fits.2.1)
  where
    blank : {A : Type 0} → job.merged ≡ Absent → job.merged ≡ Spelt (lawful.committed.fits.2.0) → A
    blank e f = let g : Absent ≡ Spelt (lawful.committed.fits.2.0) = sym e ∙ f in absurd (cc)
accepts m seat job ClearCopying h lawful other free = keeps m seat job (done_by job ClearCopying) ClearCopying h tt free h.holder h.locked (moved m seat job ClearCopying h free) h.blind
accepts m seat job Look h lawful other free = keeps m seat job (answered job Look (granted m Look)) Look h tt free h.holder h.locked (λ l. refl) (λ l. let f : true ≡ false = l in absurd (cc))

refuses : (m : Mirror) (seat : ℕ) (job : Job) (call : Call) → HasLock m seat job → Lawful job call → call ≢ ReleaseLock → HasLock m seat (refused_to job call)
refuses m seat job (Init url uuid props) h lawful other = begun_not job h.locked lawful.begun
refuses m seat job (TakeLock token) h lawful other = begun_not job h.locked lawful.begun
refuses m seat job (StealLock token) h lawful other = begun_not job h.locked lawful.begun
refuses m seat job ReleaseLock h lawful other = absurd (other refl)
refuses m seat job (SetCopying n) h lawful other = h
refuses m seat job (Commit n set props) h lawful other = h
refuses m seat job (PutProps n props) h lawful other = h
refuses m seat job (SetMerged n) h lawful other = h
refuses m seat job ClearCopying h lawful other = h
refuses m seat job Look h lawful other = h

pub holder-stays : HolderStays
holder-stays m seat job call h lawful other = (accepts m seat job call h lawful other, refuses m seat job call h lawful other)

-- a job that was told something else
told : (m : Mirror) (seat : ℕ) (job after : Job) → HasLock m seat job → after.stage ≡ job.stage → after.looked ≡ job.looked → known_by after ≡ known_by job → HasLock m seat after
told m seat job after h st lo k =
    record {
      some = h.some;
      few = h.few;
      url = h.url;
      lock = h.lock;
      holder = h.holder;
      locked = st ∙ h.locked;
      numbers = λ l. k ∙ h.numbers (sym lo ∙ l);
      blind = λ l. ap (λ n. n.merged) k ∙ h.blind (sym lo ∙ l);
    }

identity : (m : Mirror) (seat : ℕ) (job : Job) (t : ℕ) (a : Answer) → HasLock m seat job → HasLock m seat (heard job t AsksIdentity a)
identity m seat job t answer.Done h = h
identity m seat job t (answer.Seen r) h = h
identity m seat job t (answer.Identity u) h = told m seat job (heard job t AsksIdentity (answer.Identity u)) h refl refl refl
identity m seat job t (answer.Latest k) h = h
identity m seat job t (answer.Revision set props) h = h
identity m seat job t (answer.Map props) h = h
identity m seat job t (answer.Refused f) h = h
identity m seat job t (answer.Failed x) h = h

latest : (m : Mirror) (seat : ℕ) (job : Job) (t : ℕ) (a : Answer) → HasLock m seat job → HasLock m seat (heard job t AsksLatest a)
latest m seat job t answer.Done h = h
latest m seat job t (answer.Seen r) h = h
latest m seat job t (answer.Identity u) h = h
latest m seat job t (answer.Latest k) h = told m seat job (heard job t AsksLatest (answer.Latest k)) h refl refl refl
latest m seat job t (answer.Revision set props) h = h
latest m seat job t (answer.Map props) h = h
latest m seat job t (answer.Refused f) h = h
latest m seat job t (answer.Failed x) h = h

revision : (m : Mirror) (seat : ℕ) (job : Job) (t n : ℕ) (a : Answer) → HasLock m seat job → HasLock m seat (heard job t (Fetches n) a)
revision m seat job t n answer.Done h = h
revision m seat job t n (answer.Seen r) h = h
revision m seat job t n (answer.Identity u) h = h
revision m seat job t n (answer.Latest k) h = h
revision m seat job t n (answer.Revision set props) h = told m seat job (heard job t (Fetches n) (answer.Revision set props)) h refl refl refl
revision m seat job t n (answer.Map props) h = h
revision m seat job t n (answer.Refused f) h = h
revision m seat job t n (answer.Failed x) h = h

map_of : (m : Mirror) (seat : ℕ) (job : Job) (t n : ℕ) (a : Answer) → HasLock m seat job → HasLock m seat (heard job t (FetchesProps n) a)
map_of m seat job t n answer.Done h = h
map_of m seat job t n (answer.Seen r) h = h
map_of m seat job t n (answer.Identity u) h = h
map_of m seat job t n (answer.Latest k) h = h
map_of m seat job t n (answer.Revision set props) h = h
map_of m seat job t n (answer.Map props) h = told m seat job (heard job t (FetchesProps n) (answer.Map props)) h refl refl refl
map_of m seat job t n (answer.Refused f) h = h
map_of m seat job t n (answer.Failed x) h = h

pub holder-listens : HolderListens
holder-listens m seat job t (Calls call) a h q = absurd q
holder-listens m seat job t AsksIdentity a h q = identity m seat job t a h
holder-listens m seat job t AsksLatest a h q = latest m seat job t a h
holder-listens m seat job t (Fetches n) a h q = revision m seat job t n a h
holder-listens m seat job t (FetchesProps n) a h q = map_of m seat job t n a h
holder-listens m seat job t Ends a h q = h

given : (m : Mirror) (seat : ℕ) (job : Job) (token : Name) → IsSized m.revisions → job.merged ≡ Absent → is_some (standing_of m.revisions).url ≡ true
    → HasLock (record { revisions = with_entry m.revisions (Mapped 0 (insert (props_at m.revisions 0) lock_name token)); holder = Some seat }) seat (record job { stage = Locked; fetched = []; looked = false })
given m seat job token s blank url =
    let p : PropMap = insert (props_at m.revisions 0) lock_name token in
    let more = mapped_size m.revisions 0 p s in
    record {
      some = more.0;
      few = more.1;
      url = ap (λ q. is_some (get q url_name)) (now0 m.revisions p s.0) ∙ ap is_some (get-put_other (props_at m.revisions 0) lock_name token url_name url-lock) ∙ url;
      lock = ap (λ q. is_some (get q lock_name)) (now0 m.revisions p s.0) ∙ ap is_some (get-put_there (props_at m.revisions 0) lock_name token);
      holder = refl;
      locked = refl;
      numbers = λ l. let f : false ≡ true = l in absurd (cc);
      blind = λ l. blank;
    }

pub lock-is-given : LockIsGiven
lock-is-given m seat job (TakeLock token) some few blank w free =
    let n = meets (standing_of m.revisions) m.holder seat (TakeLock token) (no_need m seat (TakeLock token) free) in given m seat job token (some, few) blank n.0
lock-is-given m seat job (StealLock token) some few blank w free =
    let n = meets (standing_of m.revisions) m.holder seat (StealLock token) (no_need m seat (StealLock token) free) in given m seat job token (some, few) blank n.0
lock-is-given m seat job (Init url uuid props) some few blank w free = absurd w
lock-is-given m seat job ReleaseLock some few blank w free = absurd w
lock-is-given m seat job (SetCopying n) some few blank w free = absurd w
lock-is-given m seat job (Commit n set props) some few blank w free = absurd w
lock-is-given m seat job (PutProps n props) some few blank w free = absurd w
lock-is-given m seat job (SetMerged n) some few blank w free = absurd w
lock-is-given m seat job ClearCopying some few blank w free = absurd w
lock-is-given m seat job Look some few blank w free = absurd w
