-- What the holder knows of its mirror.
use Rattle.std.proofs.Common.{◌≡◌, ◌≢◌, ◌⊎◌, inl, inr, ℕ, ◌+◌, ◌-◌, ◌<◌, ◌≤◌, ◌==◌, Bool, true, false, not, ◌&&◌, ◌||◌, List, length, slice_set, Option, Some, None, is_some, refl, sym, ap, ◌∙◌, subst, arith}
use Rattle.std.specs.FinMap.{get}
use Rattle.std.proofs.lemmas.Bool.Decides.{nat_tests}
use Rattle.node_base.specs.Path.{Name}
use Rattle.node_base.specs.Props.{PropMap, is_sync, copied_beside}
use Rattle.repo_core.specs.declared.entry.Entry.TheVariants.{Mapped}
use Rattle.repo_core.specs.Repository.{Revision, head_of, props_at}
use Rattle.repo_core.specs.Entries.{with_entry}
use Rattle.sync_core.specs.declared.need.Need.TheVariants as need
use Rattle.sync_core.specs.Names.{Number, Absent, Spelt, is_number, is_absent, reaches, precedes}
use Rattle.sync_core.specs.Mirror.{Standing, standing_of, Need, Call, Init, TakeLock, StealLock, ReleaseLock, SetCopying, Commit, PutProps, SetMerged, ClearCopying, Look, holds, unmet}
use Rattle.sync_core.specs.Jobs.{Order, Initialise, Sync, CopyProps, Begun, Locked, Over, Job, MayPutNumber, Lawful}
use Rattle.sync_core.specs.World.{job_at}
use Rattle.sync_core.proofs.Writes.{copied_beside-own}
use Rattle.sync_core.proofs.Kept.{refuse_if, is_equal, itself, length-mapped}
use Rattle.sync_core.proofs.Lists.{some_is}
use Rattle.sync_core.proofs.Jobs.{job-stored}
use Rattle.sync_core.proofs.Revisions.{zeroth_of, props-there, props-elsewhere}

pub record SameNumbers (job : Job) (r : Standing) : Type 0 where
  pub merged : job.merged ≡ r.merged
  pub copying : job.copying ≡ r.copying
  pub head : job.head ≡ r.head

pub record Knowing (r : Standing) (holder : Option ℕ) (seat : ℕ) (job : Job) : Type 0 where
  pub holding : job.stage ≡ Locked → holder ≡ Some seat
  -- once it has looked it knows the numbers, and before it knows none
  pub numbers : job.stage ≡ Locked → job.looked ≡ true → SameNumbers job r
  pub blind : job.stage ≡ Locked → job.looked ≡ false → job.merged ≡ Absent
  pub begun : job.stage ≡ Begun → job.merged ≡ Absent

pub sees : (r : Standing) (holder : Option ℕ) (seat : ℕ) (job : Job) (k : ℕ) → Knowing r holder seat job → job.stage ≡ Locked → job.merged ≡ Spelt k → (job.looked ≡ true) × SameNumbers job r
sees r holder seat job k known is_locked spelt =
    elim job.looked as (λ b. job.looked ≡ b → (job.looked ≡ true) × SameNumbers job r) [
      | true ↦ λ e. (e, known.numbers is_locked e)
      | false ↦ λ e. let f : Absent ≡ Spelt k = sym (known.blind is_locked e) ∙ spelt in absurd (cc)
    ] refl

pub free-held : (holder : Option ℕ) (seat : ℕ) (rest : Option Need) → holder ≡ Some seat → rest ≡ None → refuse_if (not (holds holder seat)) need.NotHolder rest ≡ None
free-held holder seat rest h e = rw (h, itself seat) e

pub free-turn : (b : Bool) (rest : Option Need) → b ≡ true → rest ≡ None → refuse_if (not b) need.OutOfTurn rest ≡ None
free-turn b rest h e = rw h e

pub all : (a b c : Bool) → a ≡ true → b ≡ true → c ≡ true → (a && b && c) ≡ true
all a b c p q r = rw (p, q) r

pub is_the : (m : Number) (n k : ℕ) → m ≡ Spelt n → n ≡ k → is_number m k ≡ true
is_the m n k e f = rw (e, f) (itself k)

pub either : (a b : Bool) → b ≡ true → (a || b) ≡ true
either true b h = refl
either false b h = h

pub before_is : (m : Number) (n k : ℕ) → m ≡ Spelt k → n ≡ k + 1 → precedes m n ≡ true
before_is m n k e f = rw (e, f) (itself (k + 1))

le_is : (n k : ℕ) (m : Number) → m ≡ Spelt k → n ≤ k → reaches m n ≡ true
le_is n k m e h = rw e (let t : n ≤ k = h in grind (arith, nat_tests))

-- a lawful call of a job that knows its mirror misses no need
pub goes-on : (r : Standing) (holder : Option ℕ) (seat : ℕ) (job : Job) (call : Call) → Knowing r holder seat job → job.stage ≡ Locked → Lawful job call → unmet r holder seat call ≡ None
goes-on r holder seat job (Init url uuid props) known is lawful = let e : Locked ≡ Begun = sym is ∙ lawful.begun in absurd (cc)
goes-on r holder seat job (TakeLock token) known is lawful = let e : Locked ≡ Begun = sym is ∙ lawful.begun in absurd (cc)
goes-on r holder seat job (StealLock token) known is lawful = let e : Locked ≡ Begun = sym is ∙ lawful.begun in absurd (cc)
goes-on r holder seat job ReleaseLock known is lawful = free-held holder seat None (known.holding is) refl
goes-on r holder seat job (SetCopying n) known is lawful =
    let t = lawful.idle.fits in
    let s = (sees r holder seat job job.head known is t.0).1 in
    free-held holder seat _ (known.holding is)
    (free-turn (is_absent r.copying && is_number r.merged r.head && (n == r.head + 1)) None
    (all (is_absent r.copying) (is_number r.merged r.head) (n == r.head + 1)
    (ap is_absent (sym s.copying ∙ t.1))
    (is_the r.merged job.head r.head (sym s.merged ∙ t.0) s.head)
    (rw (lawful.next ∙ ap (λ h. h + 1) s.head) (itself (r.head + 1))))
    refl)
goes-on r holder seat job (Commit n set props) known is lawful =
    let t = lawful.copying.fits in
    let s = (sees r holder seat job job.head known is t.0).1 in
    free-held holder seat _ (known.holding is)
    (free-turn (is_number r.copying n && is_number r.merged r.head && (n == r.head + 1)) None
    (all (is_number r.copying n) (is_number r.merged r.head) (n == r.head + 1)
    (is_the r.copying n n (sym s.copying ∙ t.1) refl)
    (is_the r.merged job.head r.head (sym s.merged ∙ t.0) s.head)
    (rw (t.2 ∙ ap (λ h. h + 1) s.head) (itself (r.head + 1))))
    refl)
goes-on r holder seat job (PutProps n props) known is lawful = free-held holder seat _ (known.holding is) (free-turn _ None (in_turn job.order lawful.number) refl)
  where
    in_turn : (order : Order) → MayPutNumber order job n → (reaches r.merged n || (is_number r.copying n && (n == r.head))) ≡ true
    in_turn (Initialise url) h = absurd h
    in_turn (Sync token steal) h =
        let s = (sees r holder seat job h.2.0 known is h.2.1).1 in
        either (reaches r.merged n) (is_number r.copying n && (n == r.head))
        (rw (is_the r.copying n n (sym s.copying ∙ h.0) refl) (rw (h.1 ∙ s.head) (itself r.head)))
    in_turn (CopyProps token) h =
        let s = (sees r holder seat job h.0 known is h.1).1 in
        rw (le_is n h.0 r.merged (sym s.merged ∙ h.1) h.2) refl
goes-on r holder seat job (SetMerged n) known is lawful =
    let t = lawful.committed.fits in
    let s = (sees r holder seat job t.2.0 known is t.2.1).1 in
    free-held holder seat _ (known.holding is)
    (free-turn (is_number r.copying n && (n == r.head) && precedes r.merged n) None
    (all (is_number r.copying n) (n == r.head) (precedes r.merged n)
    (is_the r.copying n n (sym s.copying ∙ t.0) refl)
    (rw (t.1 ∙ s.head) (itself r.head))
    (before_is r.merged n t.2.0 (sym s.merged ∙ t.2.1) t.2.2))
    refl)
goes-on r holder seat job ClearCopying known is lawful =
    let t = lawful.merged.fits in
    let s = (sees r holder seat job job.head known is t.0).1 in
    free-held holder seat _ (known.holding is)
    (free-turn (is_number r.copying r.head && is_number r.merged r.head) None
    (rw (is_the r.copying job.head r.head (sym s.copying ∙ t.1) s.head) (is_the r.merged job.head r.head (sym s.merged ∙ t.0) s.head))
    refl)
goes-on r holder seat job Look known is lawful = refl

-- every job of a mirror, and the lock's property of a holder
pub record RoomKnows (x : List Revision) (holder : Option ℕ) (jobs : List (Option Job)) : Type 0 where
  pub jobs_know : (seat : ℕ) (job : Job) → job_at jobs seat ≡ Some job → Knowing (standing_of x) holder seat job
  pub lock : (i : ℕ) → holder ≡ Some i → is_some (standing_of x).lock ≡ true

-- a job at another seat, when only one seat holds
other-knows : (r r2 : Standing) (holder holder2 : Option ℕ) (i : ℕ) (job : Job) → Knowing r holder i job → (holder ≡ Some i → ⊥) → Knowing r2 holder2 i job
other-knows r r2 holder holder2 i job k never =
    record {
      holding = λ l. absurd (never (k.holding l));
      numbers = λ l. absurd (never (k.holding l));
      blind = λ l. absurd (never (k.holding l));
      begun = k.begun;
    }

pub knows-set :
    (x x2 : List Revision) (holder holder2 : Option ℕ) (jobs : List (Option Job)) (seat : ℕ) (job : Job)
    → RoomKnows x holder jobs → ((i : ℕ) → i ≢ seat → holder ≡ Some i → ⊥) → Knowing (standing_of x2) holder2 seat job → ((i : ℕ) → holder2 ≡ Some i → is_some (standing_of x2).lock ≡ true)
    → RoomKnows x2 holder2 (slice_set jobs seat (Some job))
knows-set x x2 holder holder2 jobs seat job k never own lock =
    record { jobs_know = λ i j runs. which i j (job-stored jobs seat (Some job) i j runs); lock = lock }
  where
    which : (i : ℕ) (j : Job) → ((i ≡ seat) × (Some job ≡ Some j)) ⊎ ((i ≢ seat) × (job_at jobs i ≡ Some j)) → Knowing (standing_of x2) holder2 i j
    which i j (inl p) = subst (λ h. Knowing (standing_of x2) holder2 h j) (sym p.0) (subst (Knowing (standing_of x2) holder2 seat) (some_is job j p.1) own)
    which i j (inr p) = other-knows (standing_of x) (standing_of x2) holder holder2 i j (k.jobs_know i j p.1) (never i p.0)

pub over : (r : Standing) (holder : Option ℕ) (seat : ℕ) (job : Job) → job.stage ≡ Over → Knowing r holder seat job
over r holder seat job e =
    record {
      holding = λ l. let f : Over ≡ Locked = sym e ∙ l in absurd (cc);
      numbers = λ l. let f : Over ≡ Locked = sym e ∙ l in absurd (cc);
      blind = λ l. let f : Over ≡ Locked = sym e ∙ l in absurd (cc);
      begun = λ b. let f : Over ≡ Begun = sym e ∙ b in absurd (cc);
    }

-- the properties of a mirror after a write of revision 0's map
pub now0 : (x : List Revision) (p : PropMap) → 0 < length x → props_at (with_entry x (Mapped 0 p)) 0 ≡ p
now0 x p some = let f = zeroth_of x some in props-there x 0 f.0 p f.1

pub head0 : (x : List Revision) (n : ℕ) (p : PropMap) → head_of (with_entry x (Mapped n p)) ≡ head_of x
head0 x n p = ap (λ i. i - 1) (length-mapped x n p)

-- the sync names of revision 0 after a copying
pub put-same : (x : List Revision) (n : ℕ) (p : PropMap) (s : Name) → 0 < length x → is_sync s ≡ true → get (props_at (with_entry x (Mapped n (copied_beside (props_at x n) p))) 0) s ≡ get (props_at x 0) s
put-same x n p s some h =
    elim (0 == n) as (λ b. (0 == n) ≡ b → get (props_at (with_entry x (Mapped n (copied_beside (props_at x n) p))) 0) s ≡ get (props_at x 0) s) [
      | true ↦ λ e.
          subst (λ i. get (props_at (with_entry x (Mapped i (copied_beside (props_at x i) p))) 0) s ≡ get (props_at x 0) s) (is_equal 0 n e)
          (ap (λ q. get q s) (now0 x (copied_beside (props_at x 0) p) some) ∙ copied_beside-own (props_at x 0) p s h)
      | false ↦ λ e. ap (λ q. get q s) (props-elsewhere x n (copied_beside (props_at x n) p) 0 (λ z. let b : (0 == n) ≡ true = ap (λ i. 0 == i) (sym z) ∙ itself 0 in cc))
    ] refl
