-- Of the paths above a path, the longest that has anything.
use Rattle.std.proofs.Common.{◌≡◌, ℕ, zero, suc, ◌<◌, [], ◌∷◌, length, take, drop, Option, Some, None, refl, ap, ◌∙◌, arith}
use Rattle.std.specs.Option.{option_or, option_map}
use Rattle.node_base.specs.Path.{Path}
use Rattle.whole_texts.specs.Bases.{nearest, with_rest}

-- none of them has anything
pub none_above : {A : Type 0} (f : Path → Option A) (p : Path) → ((j : ℕ) → j < length p → f (take j p) ≡ None) → nearest f p ≡ None
none_above f [] h = refl
none_above f (n ∷ p) h =
    ap (λ o. option_or o (option_map (with_rest (n ∷ p)) (f []))) (none_above (λ q. f (n ∷ q)) p (λ j lt. h (suc j) (omega arith)))
    ∙ ap (option_map (with_rest (n ∷ p))) (h 0 (omega arith))

-- one has something, and no longer one
pub one_above : {A : Type 0} (f : Path → Option A) (p : Path) (j : ℕ) (x : A) → j < length p → f (take j p) ≡ Some x → ((k : ℕ) → j < k → k < length p → f (take k p) ≡ None) → nearest f p ≡ Some (x, drop j p)
one_above f [] j x lt e h = absurd (omega (arith, lt))
one_above f (n ∷ p) zero x lt e h =
    ap (λ o. option_or o (option_map (with_rest (n ∷ p)) (f []))) (none_above (λ q. f (n ∷ q)) p (λ k l. h (suc k) (omega arith) (omega arith)))
    ∙ ap (option_map (with_rest (n ∷ p))) e
one_above f (n ∷ p) (suc j) x lt e h =
    ap (λ o. option_or o (option_map (with_rest (n ∷ p)) (f []))) (one_above (λ q. f (n ∷ q)) p j x (omega arith) e (λ k a b. h (suc k) (omega arith) (omega arith)))

-- ---- another view of what is there

abbrev pub on_first : {A B : Type 0} → (A → B) → A × Path → B × Path
on_first g x = (g x.0, x.1)

joined : {A B : Type 0} (g : A → B) (q : Path) (o : Option (A × Path)) (a : Option A) → option_or (option_map (on_first g) o) (option_map (with_rest q) (option_map g a)) ≡ option_map (on_first g) (option_or o (option_map (with_rest q) a))
joined g q (Some x) a = refl
joined g q None (Some y) = refl
joined g q None None = refl

pub nearest-map : {A B : Type 0} (g : A → B) (f : Path → Option A) (p : Path) → nearest (λ q. option_map g (f q)) p ≡ option_map (on_first g) (nearest f p)
nearest-map g f [] = refl
nearest-map g f (n ∷ p) =
    ap (λ o. option_or o (option_map (with_rest (n ∷ p)) (option_map g (f [])))) (nearest-map g (λ q. f (n ∷ q)) p)
    ∙ joined g (n ∷ p) (nearest (λ q. f (n ∷ q)) p) (f [])
