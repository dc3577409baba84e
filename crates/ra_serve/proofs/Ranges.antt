-- Revisions of a range, one after another.
use Rattle.std.proofs.Common.{◌≡◌, ℕ, zero, suc, ◌<◌, ◌≤◌, ◌+◌, ◌-◌, Bool, true, false, List, [], ◌∷◌, ◌++◌, length, Option, Some, None, Result, Ok, Err, refl, sym, ap, subst, ◌∙◌, append-nil, arith, inl, inr, ◌⊎◌}
use Rattle.std.specs.Prelude.{nat_le, IfOk}
use Rattle.std.proofs.KnownBytes.{Appends-trans}
use Rattle.std.proofs.lemmas.Bool.Decides.{nat_tests}
use Rattle.std.proofs.lemmas.Grind.{flat_map-append}
use Rattle.std.specs.List.{flat_map, range_with_len}
use Rattle.std.specs.Io.KnownBytes.{Appends}
use Rattle.fleet_disk.specs.Rules.{Rose}
use Rattle.node_base.specs.declared.refusal.Refusal.{Refusal}
use Rattle.node_base.specs.declared.refusal.Refusal.TheVariants as refusal
use Rattle.dump_load.specs.Faults.{fault_if, first_of}
use Rattle.repo_core.specs.Repository.{Repository, head_of}
use Rattle.ra_wire.specs.Commands.{ReplayRange}
use Rattle.ra_serve.specs.declared.fault.PortFault.{PortFault}
use Rattle.ra_serve.specs.declared.fault.PortFault.TheVariants as fault
use Rattle.ra_serve.specs.Answers.{due, edits, revision_bytes, refused}
use Rattle.ra_serve.specs.declared.fault.ServeFault.{ServeFault}
use Rattle.ra_serve.specs.Ports.{refusal_of, no_revision, IsOwn, MayRefuse, Stays}
use Rattle.ra_serve.specs.Tellings.{Replied, Tells}
use Rattle.ra_serve.proofs.Causes.{none_is_not, refuses_later}

-- ---- revisions that are there

above : (a n : ℕ) → n ≤ a → nat_le n a ≡ true
above a n h = grind (arith, nat_tests)

below : (a n : ℕ) → a < n → nat_le n a ≡ false
below a n h = grind (arith, nat_tests)

pub is_above : (x : Repository) (n : ℕ) → length x.revisions ≤ n → no_revision x n ≡ Some refusal.NoSuchRevision
is_above x n h = ap (λ b. fault_if b refusal.NoSuchRevision) (above n (length x.revisions) h)

pub is_there : (x : Repository) (n : ℕ) → n < length x.revisions → no_revision x n ≡ None
is_there x n h = ap (λ b. fault_if b refusal.NoSuchRevision) (below n (length x.revisions) h)

pub both_there : (mirror : Bool) (x : Repository) (a b : ℕ) → a < length x.revisions → b < length x.revisions → due mirror x (ReplayRange a b) ≡ None
both_there mirror x a b h k = ap (λ o. first_of (o ∷ no_revision x b ∷ [])) (is_there x a h) ∙ ap (λ o. first_of (o ∷ [])) (is_there x b k)

pub first_above : (mirror : Bool) (x : Repository) (a b : ℕ) → length x.revisions ≤ a → due mirror x (ReplayRange a b) ≡ Some refusal.NoSuchRevision
first_above mirror x a b h = ap (λ o. first_of (o ∷ no_revision x b ∷ [])) (is_above x a h)

second_of : (o : Option Refusal) (b : Bool) → o ≡ fault_if b refusal.NoSuchRevision → first_of (o ∷ Some refusal.NoSuchRevision ∷ []) ≡ Some refusal.NoSuchRevision
second_of o true e = ap (λ p. first_of (p ∷ Some refusal.NoSuchRevision ∷ [])) e
second_of o false e = ap (λ p. first_of (p ∷ Some refusal.NoSuchRevision ∷ [])) e

pub last_above : (mirror : Bool) (x : Repository) (a b : ℕ) → length x.revisions ≤ b → due mirror x (ReplayRange a b) ≡ Some refusal.NoSuchRevision
last_above mirror x a b h = ap (λ o. first_of (no_revision x a ∷ o ∷ [])) (is_above x b h) ∙ second_of (no_revision x a) (nat_le (length x.revisions) a) refl

-- ---- one revision more

range_more : (a n : ℕ) → range_with_len a (n + 1) ≡ range_with_len a n ++ (a + n) ∷ []
range_more a zero = ap (λ k. k ∷ []) (omega arith)
range_more a (suc n) =
    let more : suc n + 1 ≡ suc (n + 1) = omega arith in
    let last : (a + 1) + n ≡ a + suc n = omega arith in
    ap (range_with_len a) more ∙ ap (λ l. a ∷ l) (range_more (a + 1) n ∙ ap (λ k. range_with_len (a + 1) n ++ k ∷ []) last)

edits_more : (x : Repository) (a n : ℕ) → edits x a (n + 1) ≡ edits x a n ++ revision_bytes x (a + n)
edits_more x a n =
    ap (flat_map (revision_bytes x)) (range_more a n)
    ∙ flat_map-append (revision_bytes x) (range_with_len a n) ((a + n) ∷ [])
    ∙ ap (λ l. edits x a n ++ l) (append-nil (revision_bytes x (a + n)))

pub written_more : (x : Repository) (a n number : ℕ) (before mid now : Option (List ℕ)) → number ≡ a + n → Appends before mid (edits x a n) → Appends mid now (revision_bytes x number) → Appends before now (edits x a (n + 1))
written_more x a n number before mid now e p q =
    subst (Appends before now) (sym (edits_more x a n)) (Appends-trans before mid now (edits x a n) (revision_bytes x (a + n)) p (subst (λ k. Appends mid now (revision_bytes x k)) e q))

-- ---- a refusal amid a range

amid : (mirror : Bool) (x : Repository) (a b n : ℕ) (rose : Type 0) (before mid now : Option (List ℕ)) (new : Option Repository) (f : PortFault) → IsOwn f → rose → n ≤ b - a → due mirror x (ReplayRange a b) ≡ None → Appends before mid (edits x a n) → Appends mid now (refused (refusal_of f)) → new ≡ Some x → Replied mirror x (ReplayRange a b) rose before now new
amid mirror x a b n rose before mid now new f o r few d p q e = record {
  halt = Some (record { cause = f; edits = n });
  lawful = record { own = o; few = few; there = λ h. d };
  counted = inr r;
  bytes = Appends-trans before mid now (edits x a n) (refused (refusal_of f)) p q;
  repository = e;
}

pub failed_amid : (mirror : Bool) (x : Repository) (a b n : ℕ) (was is : ℕ) (before mid now : Option (List ℕ)) (new : Option Repository) (f : PortFault) → MayRefuse was is f None → n ≤ b - a → due mirror x (ReplayRange a b) ≡ None → Appends before mid (edits x a n) → Appends mid now (refused (refusal_of f)) → new ≡ Some x → Replied mirror x (ReplayRange a b) (Rose was is) before now new
failed_amid mirror x a b n was is before mid now new fault.DeviceFailed m few d p q e = amid mirror x a b n (Rose was is) before mid now new fault.DeviceFailed tt m few d p q e
failed_amid mirror x a b n was is before mid now new fault.Failed m few d p q e = amid mirror x a b n (Rose was is) before mid now new fault.Failed tt m few d p q e
failed_amid mirror x a b n was is before mid now new fault.LogFull m few d p q e = amid mirror x a b n (Rose was is) before mid now new fault.LogFull tt m few d p q e
failed_amid mirror x a b n was is before mid now new fault.OutOfMemory m few d p q e = amid mirror x a b n (Rose was is) before mid now new fault.OutOfMemory tt m few d p q e
failed_amid mirror x a b n was is before mid now new fault.TooLong m few d p q e = absurd (none_is_not refusal.TooLong m)
failed_amid mirror x a b n was is before mid now new fault.NoSuchRevision m few d p q e = absurd (none_is_not refusal.NoSuchRevision m)
failed_amid mirror x a b n was is before mid now new fault.BaseMismatch m few d p q e = absurd (none_is_not refusal.BaseMismatch m)

-- the same of a call that tells it
pub refused_amid : {P W : Type 0} (repository : P → Option Repository) (refusals : P → ℕ) (is_mirror : P → Bool) (contents : W → Option (List ℕ)) (a b n number : ℕ) (old mid new : P) (out sent : W) (result : Result W ServeFault) (f : PortFault)
    → IfOk result (λ w. Appends (contents sent) (contents w) (refused (refusal_of f)))
    → ((x : Repository) → repository old ≡ Some x → (a < length x.revisions) × (b < length x.revisions))
    → ((x : Repository) → repository old ≡ Some x → Appends (contents out) (contents sent) (edits x a n))
    → ((x : Repository) → repository mid ≡ Some x → MayRefuse (refusals mid) (refusals new) f (no_revision x number))
    → Stays (repository old) (repository mid) (is_mirror old) (is_mirror mid) (refusals old) (refusals mid)
    → repository new ≡ repository mid
    → number ≡ a + n → number < b + 1
    → IfOk result (Tells repository refusals is_mirror contents (ReplayRange a b) old new out)
refused_amid repository refusals is_mirror contents a b n number old mid new out sent (Err g) f p t q m s e k l = tt
refused_amid repository refusals is_mirror contents a b n number old mid new out sent (Ok w) f p t q m s e k l = λ x h.
    let both = t x h in
    let there : number < length x.revisions = omega (arith, l, both.1) in
    let few : n ≤ b - a = omega (arith, k, l) in
    let mine = subst (MayRefuse (refusals mid) (refusals new) f) (is_there x number there) (m x (s.repository ∙ h)) in
    failed_amid (is_mirror old) x a b n (refusals old) (refusals new) (contents out) (contents sent) (contents w) (repository new) f
    (refuses_later (refusals old) (refusals mid) (refusals new) f None s.goes.later mine) few (both_there (is_mirror old) x a b both.0 both.1) (q x h) p (e ∙ s.repository ∙ h)

-- a range that isn't there
pub range_due : (mirror : Bool) (x : Repository) (a b head : ℕ) → head ≡ head_of x.revisions → (head < a) ⊎ (head < b) → due mirror x (ReplayRange a b) ≡ Some refusal.NoSuchRevision
range_due mirror x a b head e (inl h) = first_above mirror x a b (omega (arith, e, h))
range_due mirror x a b head e (inr h) = last_above mirror x a b (omega (arith, e, h))

pub range_there : (x : Repository) (a b head : ℕ) → head ≡ head_of x.revisions → 0 < length x.revisions → a ≤ head → b ≤ head → (a < length x.revisions) × (b < length x.revisions)
range_there x a b head e s h k = (omega (arith, e, s, h), omega (arith, e, s, k))
