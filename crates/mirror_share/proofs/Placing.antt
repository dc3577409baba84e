-- Places of jobs.
use Rattle.std.proofs.Common.{◌≡◌, ◌⊎◌, inl, inr, ◌<◌, ◌≤◌, ◌+◌, ℕ, zero, suc, List, [], ◌∷◌, length, Option, Some, sym, ap, ◌∙◌, arith}
use Rattle.std.specs.Prelude.{slice_get}
use Rattle.std.specs.Option.{option_and_then}
use Rattle.std.proofs.Math.Nat.{eq-or-lt_of_le}
use Rattle.mirror_share.specs.Places.{job_at}

abbrev Nowhere : List (Option (List ℕ)) → List ℕ → ℕ → Type 0
Nowhere ps t n = (j : ℕ) → j < n → job_at ps j ≡ Some t → ⊥

-- not at the places below, and not here
pub nowhere_more : (ps : List (Option (List ℕ))) (t : List ℕ) (i : ℕ) (o : Option (List ℕ)) → Nowhere ps t i → slice_get ps i ≡ Some o → (o ≡ Some t → ⊥) → Nowhere ps t (i + 1)
nowhere_more ps t i o below here other j h = by_place (eq-or-lt_of_le (let q : j ≤ i = omega (arith, h) in q))
  where
    by_place : (j ≡ i) ⊎ (j < i) → job_at ps j ≡ Some t → ⊥
    by_place (inl e) at = other (sym (ap (option_and_then (λ (x : Option (List ℕ)). x)) (ap (slice_get ps) e ∙ here)) ∙ at)
    by_place (inr w) at = below j w at

within : (ps : List (Option (List ℕ))) (t : List ℕ) (j : ℕ) → job_at ps j ≡ Some t → j < length ps
within [] t j h = absurd (cc)
within (p ∷ ps) t zero h = omega arith
within (p ∷ ps) t (suc j) h = let w = within ps t j h in omega (arith, w)

-- so nowhere at all
pub nowhere : (ps : List (Option (List ℕ))) (t : List ℕ) (n : ℕ) → length ps ≤ n → Nowhere ps t n → (j : ℕ) → job_at ps j ≡ Some t → ⊥
nowhere ps t n e all j at = all j (let w = within ps t j at in omega (arith, e, w)) at
