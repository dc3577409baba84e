-- What an accepted lawful call leaves of the revisions and the journal.
use Rattle.std.proofs.Common.{◌≡◌, ℕ, zero, suc, ◌+◌, ◌<◌, ◌≤◌, ◌==◌, Bool, true, false, not, ◌&&◌, List, [], ◌∷◌, ◌++◌, length, slice_get, if◌then◌else◌, Option, Some, None, is_some, nat_le, nat_lt, refl, sym, ap, ◌∙◌, subst, arith}
use Rattle.std.specs.Option.{option_map_or}
use Rattle.std.proofs.lemmas.Bool.Decides.{nat_tests}
use Rattle.node_base.specs.Props.{PropMap}
use Rattle.repo_core.specs.declared.entry.Entry.TheVariants.{Mapped}
use Rattle.repo_core.specs.Repository.{Revision, head_of}
use Rattle.repo_core.specs.Entries.{with_entry}
use Rattle.sync_core.specs.declared.need.Need.TheVariants as need
use Rattle.sync_core.specs.Names.{is_number, is_absent, precedes}
use Rattle.sync_core.specs.Mirror.{standing_of, Need, Call, Init, TakeLock, StealLock, ReleaseLock, SetCopying, Commit, PutProps, SetMerged, ClearCopying, Look, holds, first_map, refusal}
use Rattle.sync_core.specs.Jobs.{Fetched, Job, GivesSet, GivesMap, Lawful}
use Rattle.sync_core.specs.World.{Origin, map_at, Room, job_at, moment_for, stands}
use Rattle.repo_core.specs.declared.fault.RepoFault.TheVariants as repo
use Rattle.sync_core.proofs.Kept.{refuse_if, Kept, JobsKept, RoomKept, IsFetched, number_is, is_equal, passes, no_need, taken, not_false, both, holder_is}
use Rattle.sync_core.proofs.Revisions.{kept-sync, kept-put}
use Rattle.sync_core.proofs.Calls.{lock-write, unlock-write, copying-write, merged-write, clear-write, kept-commit, kept-init}

-- the map that a job may put is the master's at the moment for it
pub given-map : (o : Origin) (jobs : List (Option Job)) (holder : Option ℕ) (copied : ℕ → ℕ) (seat : ℕ) (job : Job) (n : ℕ) (p : PropMap) → JobsKept o jobs holder copied → job_at jobs seat ≡ Some job → GivesMap job.fetched n p → map_at o (moment_for job n) n ≡ Some p
given-map o jobs holder copied seat job n p k runs g =
    let f : IsFetched o n g.it = k.fetched seat job runs n g.it g.last in
    let when : moment_for job n ≡ g.it.moment = ap (λ s. option_map_or (λ (h : Fetched). h.moment) s 0) g.last in
    ap (λ t. map_at o t n) when ∙ f.there ∙ ap (λ q. Some q) g.the_map

pub few_of : (n : ℕ) → nat_lt 65535 n ≡ false → n ≤ 65535
few_of n h = grind (arith, nat_tests)

-- a number that the repository has
put-inside : (x : List Revision) (n : ℕ) → nat_le (length x) n ≡ false → (y : Revision) × (slice_get x n ≡ Some y)
put-inside x n h = there x n (let e : nat_le (length x) n ≡ false = h in grind (arith, nat_tests))
  where
    there : (z : List Revision) (i : ℕ) → i < length z → (y : Revision) × (slice_get z i ≡ Some y)
    there [] i l = absurd (omega arith)
    there (a ∷ z) zero l = (a, refl)
    there (a ∷ z) (suc i) l = there z i (omega arith)

pub record Turn (room : Room) (seat : ℕ) (b : Bool) (rest : Option Need) : Type 0 where
  pub holder : room.mirror.holder ≡ Some seat
  pub turn : b ≡ true
  pub more : rest ≡ None

-- a call of the holder in its turn
pub turn_of : (room : Room) (seat : ℕ) (b : Bool) (rest : Option Need) → refuse_if (not (holds room.mirror.holder seat)) need.NotHolder (refuse_if (not b) need.OutOfTurn rest) ≡ None → Turn room seat b rest
turn_of room seat b rest e =
    let one = passes (not (holds room.mirror.holder seat)) need.NotHolder (refuse_if (not b) need.OutOfTurn rest) e in
    let two = passes (not b) need.OutOfTurn rest one.1 in
    record { holder = holder_is room.mirror.holder seat (not_false (holds room.mirror.holder seat) one.0); turn = not_false b two.0; more = two.1 }

pub kept-stands : (o : Origin) (shaped : Bool) (room : Room) (seat : ℕ) (job : Job) (call : Call) → RoomKept o shaped room → job_at room.jobs seat ≡ Some job → Lawful job call → refusal room.mirror seat call ≡ None → Kept o shaped (stands room seat job call).mirror.revisions (stands room seat job call).journal (stands room seat job call).copied
kept-stands o shaped room seat job (Init url uuid props) k runs lawful free =
    let x : List Revision = room.mirror.revisions in
    let first = passes (is_some (standing_of x).url) need.AlreadyInitialised (refuse_if (not (head_of x == 0)) need.NotEmpty None) (no_need room.mirror seat (Init url uuid props) free) in
    let second = passes (not (head_of x == 0)) need.NotEmpty None first.1 in
    let blank : head_of x ≡ 0 = is_equal (head_of x) 0 (not_false (head_of x == 0) second.0) in
    let given = given-map o room.jobs room.mirror.holder room.copied seat job 0 props k.jobs runs lawful.gives in
    let known : uuid ≡ o.identity = k.jobs.identity seat job runs uuid lawful.identity in
    let done = kept-init o shaped x room.journal room.copied url props (moment_for job 0) k.revisions blank given in
    subst (λ u. Kept o shaped (with_entry x (Mapped 0 (first_map url u props))) (room.journal ++ Mapped 0 (first_map url u props) ∷ []) (λ r. if r == 0 then moment_for job 0 else room.copied r)) (sym known) done
kept-stands o shaped room seat job (TakeLock token) k runs lawful free = kept-sync o shaped room.mirror.revisions room.journal room.copied _ k.revisions (lock-write o shaped room.mirror.revisions room.journal room.copied token k.revisions)
kept-stands o shaped room seat job (StealLock token) k runs lawful free = kept-sync o shaped room.mirror.revisions room.journal room.copied _ k.revisions (lock-write o shaped room.mirror.revisions room.journal room.copied token k.revisions)
kept-stands o shaped room seat job ReleaseLock k runs lawful free = kept-sync o shaped room.mirror.revisions room.journal room.copied _ k.revisions (unlock-write o shaped room.mirror.revisions room.journal room.copied k.revisions)
kept-stands o shaped room seat job (SetCopying n) k runs lawful free =
    let x : List Revision = room.mirror.revisions in
    let t = turn_of room seat _ _ (no_need room.mirror seat (SetCopying n) free) in
    let a = both (is_absent (standing_of x).copying && is_number (standing_of x).merged (head_of x)) (n == head_of x + 1) t.turn in
    let b = both (is_absent (standing_of x).copying) (is_number (standing_of x).merged (head_of x)) a.0 in
    kept-sync o shaped x room.journal room.copied _ k.revisions (copying-write o shaped x n k.revisions.small k.revisions.some (number_is (standing_of x).merged (head_of x) b.1) (is_equal n (head_of x + 1) a.1))
kept-stands o shaped room seat job (Commit n set props) k runs lawful free =
    let x : List Revision = room.mirror.revisions in
    let t = turn_of room seat _ _ (no_need room.mirror seat (Commit n set props) free) in
    let a = both (is_number (standing_of x).copying n && is_number (standing_of x).merged (head_of x)) (n == head_of x + 1) t.turn in
    let b = both (is_number (standing_of x).copying n) (is_number (standing_of x).merged (head_of x)) a.0 in
    let full = passes (nat_lt 65535 (length x)) repo.Full _ (taken room.mirror seat (Commit n set props) free) in
    let few : length x ≤ 65535 = few_of (length x) full.0 in
    let some : 0 < length x = k.revisions.some in
    let room_left : head_of x < 65535 = omega arith in
    let g : GivesSet job.fetched n set props = lawful.gives in
    let f : IsFetched o n g.it = k.jobs.fetched seat job runs n g.it g.last in
    kept-commit o shaped x room.journal room.copied n set props (moment_for job n) k.revisions (k.held seat t.holder) (number_is (standing_of x).merged (head_of x) b.1) (number_is (standing_of x).copying n b.0) (is_equal n (head_of x + 1) a.1) room_left (f.makes set g.the_set)
    (given-map o room.jobs room.mirror.holder room.copied seat job n props k.jobs runs (record { it = g.it; last = g.last; the_map = g.the_map }))
kept-stands o shaped room seat job (PutProps n props) k runs lawful free =
    let x : List Revision = room.mirror.revisions in
    let there = put-inside x n (passes (nat_le (length x) n) repo.NoSuchRevision _ (taken room.mirror seat (PutProps n props) free)).0 in
    kept-put o shaped x room.journal room.copied n there.0 props (moment_for job n) k.revisions there.1 (given-map o room.jobs room.mirror.holder room.copied seat job n props k.jobs runs lawful.gives)
kept-stands o shaped room seat job (SetMerged n) k runs lawful free =
    let x : List Revision = room.mirror.revisions in
    let t = turn_of room seat _ _ (no_need room.mirror seat (SetMerged n) free) in
    let a = both (is_number (standing_of x).copying n && (n == head_of x)) (precedes (standing_of x).merged n) t.turn in
    let b = both (is_number (standing_of x).copying n) (n == head_of x) a.0 in
    kept-sync o shaped x room.journal room.copied _ k.revisions (merged-write o shaped x n k.revisions.small k.revisions.some (number_is (standing_of x).copying n b.0) (is_equal n (head_of x) b.1))
kept-stands o shaped room seat job ClearCopying k runs lawful free =
    let x : List Revision = room.mirror.revisions in
    let t = turn_of room seat _ _ (no_need room.mirror seat ClearCopying free) in
    let a = both (is_number (standing_of x).copying (head_of x)) (is_number (standing_of x).merged (head_of x)) t.turn in
    kept-sync o shaped x room.journal room.copied _ k.revisions (clear-write o shaped x (number_is (standing_of x).merged (head_of x) a.1))
kept-stands o shaped room seat job Look k runs lawful free = k.revisions
