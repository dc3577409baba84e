-- Calls one after another: what they deny, and what they come to.
use Rattle.std.proofs.Common.{◌≡◌, ℕ, ◌≤◌, Option, Some, None, Result, Ok, Err, refl, sym, ap, subst, ◌∙◌, arith}
use Rattle.std.specs.Option.{option_or}
use Rattle.ra_serve.proofs.Causes.{rose_sooner}
use Rattle.ra_denial.specs.Stops.{MayStop, Comes, Denies, Decides}
use Rattle.ra_denial.specs.declared.denial.Denial.{Denial}
use Rattle.ra_denial.specs.declared.stop.Stop.{Stop}
use Rattle.ra_denial.specs.declared.stop.Stop.TheVariants as stop
use Rattle.ra_denial.proofs.Stops.{denies_stops, later_stops}

-- ---- of two reasons

pub only_second : (d e : Option Denial) → d ≡ None → option_or d e ≡ e
only_second d e h = ap (λ o. option_or o e) h

pub first_alone : (d e : Option Denial) → e ≡ None → option_or d e ≡ d
first_alone None e h = h
first_alone (Some w) e h = refl

pub first_none : (d e : Option Denial) → option_or d e ≡ None → d ≡ None
first_none None e h = refl
first_none (Some w) e h = h

-- ---- why a call stopped

pub first_stops : (p m n : ℕ) (d e : Option Denial) (s : Stop) → m ≤ n → MayStop p m d s → MayStop p n (option_or d e) s
first_stops p m n d e (stop.Denied w) h k = ap (λ o. option_or o e) k
first_stops p m n d e (stop.Port f) h k = (k.0, rose_sooner p m n h k.1)
first_stops p m n d e stop.OutOfMemory h k = tt

pub second_stops : (p m n : ℕ) (d e : Option Denial) (s : Stop) → p ≤ m → d ≡ None → MayStop m n e s → MayStop p n (option_or d e) s
second_stops p m n d e s l h k = subst (λ o. MayStop p n o s) (sym (only_second d e h)) (later_stops p m n e s l k)

-- of a call that asks no port
pub denied_first : (p n : ℕ) (d e : Option Denial) (s : Stop) → Denies d s → MayStop p n (option_or d e) s
denied_first p n d e s h = first_stops p n n d e s (omega arith) (denies_stops p n d s h)

pub first_denies : (d e : Option Denial) (s : Stop) → Denies d s → Denies (option_or d e) s
first_denies d e (stop.Denied w) k = ap (λ o. option_or o e) k
first_denies d e (stop.Port f) k = k
first_denies d e stop.OutOfMemory k = tt

pub second_denies : (d e : Option Denial) (s : Stop) → d ≡ None → Denies e s → Denies (option_or d e) s
second_denies d e s h k = subst (λ o. Denies o s) (sym (only_second d e h)) k

-- ---- what a call came to

pub then_comes : {A : Type 0} (p m n : ℕ) (d e : Option Denial) (Is Also : A → Type 0) (r : Result A Stop) → p ≤ m → d ≡ None → ((a : A) → Is a → Also a) → Comes m n e Is r → Comes p n (option_or d e) Also r
then_comes p m n d e Is Also (Ok a) l h f c = (only_second d e h ∙ c.0, f a c.1)
then_comes p m n d e Is Also (Err s) l h f c = second_stops p m n d e s l h c

pub decides_comes : {A : Type 0} (p n : ℕ) (d : Option Denial) (Is : A → Type 0) (r : Result A Stop) → Decides d Is r → Comes p n d Is r
decides_comes p n d Is (Ok a) c = c
decides_comes p n d Is (Err s) c = denies_stops p n d s c

pub then_decides : {A : Type 0} (p n : ℕ) (d e : Option Denial) (Is Also : A → Type 0) (r : Result A Stop) → d ≡ None → ((a : A) → Is a → Also a) → Decides e Is r → Comes p n (option_or d e) Also r
then_decides p n d e Is Also r h f c = then_comes p p n d e Is Also r (omega arith) h f (decides_comes p n e Is r c)

pub both_decide : {A : Type 0} (d e : Option Denial) (Is Also : A → Type 0) (r : Result A Stop) → d ≡ None → ((a : A) → Is a → Also a) → Decides e Is r → Decides (option_or d e) Also r
both_decide d e Is Also (Ok a) h f c = (only_second d e h ∙ c.0, f a c.1)
both_decide d e Is Also (Err s) h f c = second_denies d e s h c
