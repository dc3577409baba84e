-- Refusals of a port, one call after another.
use Rattle.std.proofs.Common.{◌≡◌, ℕ, ◌≤◌, inl, inr, Bool, true, false, true≢false, Option, Some, None, refl, sym, ap, subst, ◌∙◌, arith}
use Rattle.fleet_disk.specs.Rules.{Rose}
use Rattle.node_base.specs.declared.refusal.Refusal.{Refusal}
use Rattle.node_base.specs.declared.refusal.Refusal.TheVariants as refusal
use Rattle.repo_core.specs.Repository.{Repository}
use Rattle.ra_serve.specs.declared.fault.PortFault.{PortFault}
use Rattle.ra_serve.specs.declared.fault.PortFault.TheVariants as fault
use Rattle.ra_serve.specs.Ports.{MayRefuse, Goes, Stays}

abbrev has : {T : Type 0} → Option T → Bool
has None = false
has (Some x) = true

pub none_is_not : {T : Type 0} (x : T) → None ≡ Some x → ⊥
none_is_not x e = true≢false (sym (ap has e))

-- a count that rose in a part of a time rose in the whole
pub rose_later : (p m n : ℕ) → p ≤ m → Rose m n → Rose p n
rose_later p m n h (inl r) = inl (omega (arith, h, r))
rose_later p m n h (inr r) = inr r

pub rose_sooner : (p m n : ℕ) → m ≤ n → Rose p m → Rose p n
rose_sooner p m n h (inl r) = inl (omega (arith, h, r))
rose_sooner p m n h (inr r) = inr (omega (arith, h, r))

-- and so a refusal
pub refuses_later : (p m n : ℕ) (f : PortFault) (d : Option Refusal) → p ≤ m → MayRefuse m n f d → MayRefuse p n f d
refuses_later p m n fault.DeviceFailed d h r = rose_later p m n h r
refuses_later p m n fault.Failed d h r = rose_later p m n h r
refuses_later p m n fault.LogFull d h r = rose_later p m n h r
refuses_later p m n fault.OutOfMemory d h r = rose_later p m n h r
refuses_later p m n fault.TooLong d h r = r
refuses_later p m n fault.NoSuchRevision d h r = r
refuses_later p m n fault.BaseMismatch d h r = r

pub refuses_sooner : (p m n : ℕ) (f : PortFault) (d : Option Refusal) → m ≤ n → MayRefuse p m f d → MayRefuse p n f d
refuses_sooner p m n fault.DeviceFailed d h r = rose_sooner p m n h r
refuses_sooner p m n fault.Failed d h r = rose_sooner p m n h r
refuses_sooner p m n fault.LogFull d h r = rose_sooner p m n h r
refuses_sooner p m n fault.OutOfMemory d h r = rose_sooner p m n h r
refuses_sooner p m n fault.TooLong d h r = r
refuses_sooner p m n fault.NoSuchRevision d h r = r
refuses_sooner p m n fault.BaseMismatch d h r = r

-- where nothing is due a refusal is the port's own, whatever else may be due
pub refuses_else : (p n : ℕ) (f : PortFault) (d : Option Refusal) → MayRefuse p n f None → MayRefuse p n f d
refuses_else p n fault.DeviceFailed d r = r
refuses_else p n fault.Failed d r = r
refuses_else p n fault.LogFull d r = r
refuses_else p n fault.OutOfMemory d r = r
refuses_else p n fault.TooLong d r = absurd (none_is_not refusal.TooLong r)
refuses_else p n fault.NoSuchRevision d r = absurd (none_is_not refusal.NoSuchRevision r)
refuses_else p n fault.BaseMismatch d r = absurd (none_is_not refusal.BaseMismatch r)

-- a revision that isn't there, where that is due
pub refuses_number : (p n : ℕ) (f : PortFault) (d : Option Refusal) → f ≡ fault.NoSuchRevision → d ≡ Some refusal.NoSuchRevision → MayRefuse p n f d
refuses_number p n f d e r = subst (λ g. MayRefuse p n g d) (sym e) r

-- calls one after another
pub stays_here : (o : Option Repository) (b : Bool) (c : ℕ) → Stays o o b b c c
stays_here o b c = record { repository = refl; goes = record { mirror = refl; later = omega arith } }

pub goes_join : (b m a : Bool) (p k n : ℕ) → Goes b m p k → Goes m a k n → Goes b a p n
goes_join b m a p k n g h = record { mirror = h.mirror ∙ g.mirror; later = omega (arith, g.later, h.later) }

pub stays_join : (o u x : Option Repository) (b m a : Bool) (p k n : ℕ) → Stays o u b m p k → Stays u x m a k n → Stays o x b a p n
stays_join o u x b m a p k n s t = record { repository = t.repository ∙ s.repository; goes = goes_join b m a p k n s.goes t.goes }
