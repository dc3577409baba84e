-- Lists that are read by `slice_get`.
use Rattle.std.proofs.Common.{◌≡◌, ◌≢◌, ◌⊎◌, inl, inr, ⊎_elim, ℕ, ◌<◌, zero, suc, List, [], ◌∷◌, ◌++◌, length, Some, slice_get, slice_set, refl, ap, arith}
use Rattle.std.proofs.lemmas.Option.{none-some, same_Some}

-- at the end of a list with one item more
pub at_last : {X : Type 0} → (xs : List X) (x y : X) (k : ℕ) → slice_get (xs ++ x ∷ []) k ≡ Some y → (slice_get xs k ≡ Some y) ⊎ ((k ≡ length xs) × (x ≡ y))
at_last [] x y zero e = inr (refl, same_Some x y e)
at_last [] x y (suc k) e = absurd (none-some y e)
at_last (z ∷ zs) x y zero e = inl e
at_last (z ∷ zs) x y (suc k) e = ⊎_elim (λ h. inl h) (λ h. inr (ap suc h.0, h.1)) (at_last zs x y k e)

pub last_there : {X : Type 0} → (xs : List X) (x : X) → slice_get (xs ++ x ∷ []) (length xs) ≡ Some x
last_there [] x = refl
last_there (z ∷ zs) x = last_there zs x

abbrev pub Has : {X : Type 0} → List X → X → Type 0
Has xs x = (k : ℕ) × (slice_get xs k ≡ Some x)

pub has_left : {X : Type 0} → (xs ys : List X) (x : X) (k : ℕ) → slice_get xs k ≡ Some x → slice_get (xs ++ ys) k ≡ Some x
has_left [] ys x k e = absurd (none-some x e)
has_left (z ∷ zs) ys x zero e = e
has_left (z ∷ zs) ys x (suc k) e = has_left zs ys x k e

pub has_right : {X : Type 0} → (xs ys : List X) (x : X) → Has ys x → Has (xs ++ ys) x
has_right [] ys x h = h
has_right (z ∷ zs) ys x h = let r = has_right zs ys x h in (suc r.0, r.1)

pub has_split : {X : Type 0} → (xs ys : List X) (x : X) (k : ℕ) → slice_get (xs ++ ys) k ≡ Some x → Has xs x ⊎ Has ys x
has_split [] ys x k e = inr (k, e)
has_split (z ∷ zs) ys x zero e = inl (zero, e)
has_split (z ∷ zs) ys x (suc k) e = ⊎_elim (λ (h : Has zs x). inl (suc h.0, h.1)) (λ (h : Has ys x). inr h) (has_split zs ys x k e)

-- an item below the length is there
pub there : {X : Type 0} → (xs : List X) (k : ℕ) → k < length xs → (x : X) × (slice_get xs k ≡ Some x)
there [] k h = absurd (omega arith)
there (z ∷ zs) zero h = (z, refl)
there (z ∷ zs) (suc k) h = there zs k (omega arith)

pub within : {X : Type 0} → (xs : List X) (x : X) (k : ℕ) → slice_get xs k ≡ Some x → k < length xs
within [] x k e = absurd (none-some x e)
within (z ∷ zs) x zero e = omega arith
within (z ∷ zs) x (suc k) e = let h = within zs x k e in omega (arith, h)

pub set_here : {X : Type 0} → (xs : List X) (n : ℕ) (x : X) → n < length xs → slice_get (slice_set xs n x) n ≡ Some x
set_here [] n x h = absurd (omega arith)
set_here (z ∷ zs) zero x h = refl
set_here (z ∷ zs) (suc n) x h = set_here zs n x (omega arith)

-- what is read at the place that was set is what was put there
pub set_read : {X : Type 0} → (xs : List X) (n : ℕ) (x y : X) → slice_get (slice_set xs n x) n ≡ Some y → x ≡ y
set_read [] n x y e = absurd (none-some y e)
set_read (z ∷ zs) zero x y e = same_Some x y e
set_read (z ∷ zs) (suc n) x y e = set_read zs n x y e

pub set_else : {X : Type 0} → (xs : List X) (n m : ℕ) (x : X) → m ≢ n → slice_get (slice_set xs n x) m ≡ slice_get xs m
set_else [] n m x h = refl
set_else (z ∷ zs) zero zero x h = absurd (h refl)
set_else (z ∷ zs) zero (suc m) x h = refl
set_else (z ∷ zs) (suc n) zero x h = refl
set_else (z ∷ zs) (suc n) (suc m) x h = set_else zs n m x (λ e. h (ap suc e))

pub set_past : {X : Type 0} → (xs : List X) (n : ℕ) (x : X) → ¬ (n < length xs) → slice_set xs n x ≡ xs
set_past [] n x h = refl
set_past (z ∷ zs) zero x h = absurd (h (omega arith))
set_past (z ∷ zs) (suc n) x h = ap (λ l. z ∷ l) (set_past zs n x (λ low. h (omega arith)))
