-- The table of a mirror's calls in words is the table of their needs.
use Rattle.std.proofs.Common.{◌≡◌, ◌⊎◌, inl, inr, ℕ, ◌+◌, ◌≤◌, ◌==◌, Bool, true, false, not, ◌&&◌, ◌||◌, Option, Some, None, IsSome, is_some, is_none, refl, sym, ap, arith}
use Rattle.std.proofs.lemmas.Bool.Decides.{nat_tests}
use Rattle.sync_core.specs.declared.need.Need.TheVariants as need
use Rattle.sync_core.specs.Names.{Number, Absent, Misspelt, Spelt, Huge, is_number, is_absent, reaches, precedes}
use Rattle.sync_core.specs.Mirror.{Standing, Need, Call, Init, TakeLock, StealLock, ReleaseLock, SetCopying, Commit, PutProps, SetMerged, ClearCopying, Look, holds, unmet}
use Rattle.sync_core.specs.Table.{IsAtMost, Needs, NeedsAreMet}
use Rattle.sync_core.proofs.Kept.{refuse_if, passes, both, not_false, is_equal, itself, number_is, absent_is, holder_is}
use Rattle.sync_core.proofs.Holder.{free-held, free-turn, all, is_the, either, before_is}

there : {A : Type 0} (a : Option A) → is_none a ≡ false → IsSome a
there None e = cc
there (Some x) e = refl

is_there : {A : Type 0} (a : Option A) → IsSome a → is_none a ≡ false
is_there None e = absurd (let f : false ≡ true = e in cc)
is_there (Some x) e = refl

nothing : {A : Type 0} (a : Option A) → is_some a ≡ false → a ≡ None
nothing None e = refl
nothing (Some x) e = cc

is_nothing : {A : Type 0} (a : Option A) → a ≡ None → is_some a ≡ false
is_nothing None e = refl
is_nothing (Some x) e = cc

-- both needs are met
two_met : (a b : Bool) (f g : Need) → a ≡ false → b ≡ false → refuse_if a f (refuse_if b g None) ≡ None
two_met a b f g p q = rw (p, q) refl

-- the holder in its turn
in_turn : (holder : Option ℕ) (seat : ℕ) (b : Bool) → refuse_if (not (holds holder seat)) need.NotHolder (refuse_if (not b) need.OutOfTurn None) ≡ None → (holder ≡ Some seat) × (b ≡ true)
in_turn holder seat b e =
    let one = passes (not (holds holder seat)) need.NotHolder (refuse_if (not b) need.OutOfTurn None) e in
    let two = passes (not b) need.OutOfTurn None one.1 in
    (holder_is holder seat (not_false (holds holder seat) one.0), not_false b two.0)

its_turn : (holder : Option ℕ) (seat : ℕ) (b : Bool) → holder ≡ Some seat → b ≡ true → refuse_if (not (holds holder seat)) need.NotHolder (refuse_if (not b) need.OutOfTurn None) ≡ None
its_turn holder seat b h e = free-held holder seat (refuse_if (not b) need.OutOfTurn None) h (free-turn b None e refl)

one_of : (a b : Bool) → (a || b) ≡ true → (a ≡ true) ⊎ (b ≡ true)
one_of true b e = inl refl
one_of false b e = inr e

at_most : (m : Number) (n : ℕ) → reaches m n ≡ true → IsAtMost n m
at_most Absent n e = absurd (cc)
at_most Misspelt n e = absurd (cc)
at_most (Spelt k) n e = grind (arith, nat_tests)
at_most Huge n e = tt

is_at_most : (m : Number) (n : ℕ) → IsAtMost n m → reaches m n ≡ true
is_at_most Absent n h = absurd h
is_at_most Misspelt n h = absurd h
is_at_most (Spelt k) n h = let t : n ≤ k = h in grind (arith, nat_tests)
is_at_most Huge n h = refl

before : (m : Number) (n : ℕ) → precedes m n ≡ true → (k : ℕ) × (m ≡ Spelt k) × (n ≡ k + 1)
before Absent n e = absurd (cc)
before Misspelt n e = absurd (cc)
before (Spelt k) n e = (k, refl, sym (is_equal (k + 1) n e))
before Huge n e = absurd (cc)

absent_test : (m : Number) → m ≡ Absent → is_absent m ≡ true
absent_test m e = ap is_absent e

pub meets : (r : Standing) (holder : Option ℕ) (seat : ℕ) (call : Call) → unmet r holder seat call ≡ None → Needs r holder seat call
meets r holder seat (Init url uuid props) e =
    let one = passes (is_some r.url) need.AlreadyInitialised (refuse_if (not (r.head == 0)) need.NotEmpty None) e in
    let two = passes (not (r.head == 0)) need.NotEmpty None one.1 in
    (nothing r.url one.0, is_equal r.head 0 (not_false (r.head == 0) two.0))
meets r holder seat (TakeLock token) e =
    let one = passes (is_none r.url) need.NotInitialised (refuse_if (is_some r.lock) need.LockHeld None) e in
    let two = passes (is_some r.lock) need.LockHeld None one.1 in
    (there r.url one.0, nothing r.lock two.0)
meets r holder seat (StealLock token) e =
    let one = passes (is_none r.url) need.NotInitialised (refuse_if (is_some holder) need.HolderRunning None) e in
    let two = passes (is_some holder) need.HolderRunning None one.1 in
    (there r.url one.0, nothing holder two.0)
meets r holder seat ReleaseLock e = holder_is holder seat (not_false (holds holder seat) (passes (not (holds holder seat)) need.NotHolder None e).0)
meets r holder seat (SetCopying n) e =
    let t = in_turn holder seat (is_absent r.copying && is_number r.merged r.head && (n == r.head + 1)) e in
    let a = both (is_absent r.copying && is_number r.merged r.head) (n == r.head + 1) t.1 in
    let b = both (is_absent r.copying) (is_number r.merged r.head) a.0 in
    (t.0, (number_is r.merged r.head b.1, absent_is r.copying b.0), is_equal n (r.head + 1) a.1)
meets r holder seat (Commit n set props) e =
    let t = in_turn holder seat (is_number r.copying n && is_number r.merged r.head && (n == r.head + 1)) e in
    let a = both (is_number r.copying n && is_number r.merged r.head) (n == r.head + 1) t.1 in
    let b = both (is_number r.copying n) (is_number r.merged r.head) a.0 in
    (t.0, (number_is r.merged r.head b.1, number_is r.copying n b.0, is_equal n (r.head + 1) a.1))
meets r holder seat (PutProps n props) e =
    let t = in_turn holder seat (reaches r.merged n || (is_number r.copying n && (n == r.head))) e in
    (t.0, which (one_of (reaches r.merged n) (is_number r.copying n && (n == r.head)) t.1))
  where
    which : (reaches r.merged n ≡ true) ⊎ ((is_number r.copying n && (n == r.head)) ≡ true) → IsAtMost n r.merged ⊎ ((r.copying ≡ Spelt n) × (n ≡ r.head))
    which (inl h) = inl (at_most r.merged n h)
    which (inr h) = let p = both (is_number r.copying n) (n == r.head) h in inr (number_is r.copying n p.0, is_equal n r.head p.1)
meets r holder seat (SetMerged n) e =
    let t = in_turn holder seat (is_number r.copying n && (n == r.head) && precedes r.merged n) e in
    let a = both (is_number r.copying n && (n == r.head)) (precedes r.merged n) t.1 in
    let b = both (is_number r.copying n) (n == r.head) a.0 in
    (t.0, (number_is r.copying n b.0, is_equal n r.head b.1, before r.merged n a.1))
meets r holder seat ClearCopying e =
    let t = in_turn holder seat (is_number r.copying r.head && is_number r.merged r.head) e in
    let a = both (is_number r.copying r.head) (is_number r.merged r.head) t.1 in
    (t.0, (number_is r.merged r.head a.1, number_is r.copying r.head a.0))
meets r holder seat Look e = tt

misses_none : (r : Standing) (holder : Option ℕ) (seat : ℕ) (call : Call) → Needs r holder seat call → unmet r holder seat call ≡ None
misses_none r holder seat (Init url uuid props) h = two_met (is_some r.url) (not (r.head == 0)) need.AlreadyInitialised need.NotEmpty (is_nothing r.url h.0) (rw h.1 refl)
misses_none r holder seat (TakeLock token) h = two_met (is_none r.url) (is_some r.lock) need.NotInitialised need.LockHeld (is_there r.url h.0) (is_nothing r.lock h.1)
misses_none r holder seat (StealLock token) h = two_met (is_none r.url) (is_some holder) need.NotInitialised need.HolderRunning (is_there r.url h.0) (is_nothing holder h.1)
misses_none r holder seat ReleaseLock h = free-held holder seat None h refl
misses_none r holder seat (SetCopying n) h =
    its_turn holder seat (is_absent r.copying && is_number r.merged r.head && (n == r.head + 1)) h.0
    (all (is_absent r.copying) (is_number r.merged r.head) (n == r.head + 1) (absent_test r.copying h.1.1) (is_the r.merged r.head r.head h.1.0 refl) (rw h.2 (itself (r.head + 1))))
misses_none r holder seat (Commit n set props) h =
    its_turn holder seat (is_number r.copying n && is_number r.merged r.head && (n == r.head + 1)) h.0
    (all (is_number r.copying n) (is_number r.merged r.head) (n == r.head + 1) (is_the r.copying n n h.1.1 refl) (is_the r.merged r.head r.head h.1.0 refl) (rw h.1.2 (itself (r.head + 1))))
misses_none r holder seat (PutProps n props) h = its_turn holder seat (reaches r.merged n || (is_number r.copying n && (n == r.head))) h.0 (which h.1)
  where
    which : IsAtMost n r.merged ⊎ ((r.copying ≡ Spelt n) × (n ≡ r.head)) → (reaches r.merged n || (is_number r.copying n && (n == r.head))) ≡ true
    which (inl p) = rw (is_at_most r.merged n p) refl
    which (inr p) = either (reaches r.merged n) (is_number r.copying n && (n == r.head)) (rw (is_the r.copying n n p.0 refl) (rw p.1 (itself r.head)))
misses_none r holder seat (SetMerged n) h =
    its_turn holder seat (is_number r.copying n && (n == r.head) && precedes r.merged n) h.0
    (all (is_number r.copying n) (n == r.head) (precedes r.merged n) (is_the r.copying n n h.1.0 refl) (rw h.1.1 (itself r.head)) (before_is r.merged n h.1.2.0 h.1.2.1 h.1.2.2))
misses_none r holder seat ClearCopying h =
    its_turn holder seat (is_number r.copying r.head && is_number r.merged r.head) h.0
    (rw (is_the r.copying r.head r.head h.1.1 refl) (is_the r.merged r.head r.head h.1.0 refl))
misses_none r holder seat Look h = refl

pub needs-are-met : NeedsAreMet
needs-are-met r holder seat call = (meets r holder seat call, misses_none r holder seat call)
