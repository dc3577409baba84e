-- Names are in the order of their heads, where these differ.
use Rattle.std.proofs.Common.{◌≡◌, ℕ, zero, suc, List, [], ◌∷◌, ◌+◌, ◌*◌, ◌<◌, ◌≤◌, refl, sym, ap, subst, ◌∙◌, arith}
use Rattle.std.proofs.lemmas.Bool.Decides.{nat_tests}
use Rattle.std.specs.declared.cmp.Ordering.TheVariants.{Less, Equal, Greater}
use Rattle.std.specs.Ordering.{nat_cmp, ordering_then, ordering_reverse}
use Rattle.node_base.specs.Path.{Name, name_cmp, names_total}
use Rattle.path_tree.specs.Heads.{gathered, IsBytes, IsHeaded}

-- ---- how numbers are compared

below : (x y : ℕ) → nat_cmp x y ≡ Less → x < y
below x y e = grind (arith, nat_tests, e)

above : (x y : ℕ) → nat_cmp x y ≡ Greater → y < x
above x y e = grind (arith, nat_tests, e)

same : (x y : ℕ) → nat_cmp x y ≡ Equal → x ≡ y
same x y e = grind (arith, nat_tests, e)

-- ---- how bytes gather

rises : (k a b : ℕ) (n m : List ℕ) → IsBytes n → a < b → gathered a k n < gathered b k m
rises zero a b n m h lt = lt
rises (suc k) a b [] [] h lt = rises k (a * 256) (b * 256) [] [] h (omega (arith, lt))
rises (suc k) a b [] (y ∷ m) h lt = rises k (a * 256) (b * 256 + y) [] m h (omega (arith, lt))
rises (suc k) a b (x ∷ n) [] h lt = rises k (a * 256 + x) (b * 256) n [] (λ i. h (suc i)) (omega (arith, lt, h 0))
rises (suc k) a b (x ∷ n) (y ∷ m) h lt = rises k (a * 256 + x) (b * 256 + y) n m (λ i. h (suc i)) (omega (arith, lt, h 0))

least : (k a b : ℕ) (m : List ℕ) → a ≤ b → gathered a k [] ≤ gathered b k m
least zero a b m le = le
least (suc k) a b [] le = least k (a * 256) (b * 256) [] (omega (arith, le))
least (suc k) a b (y ∷ m) le = least k (a * 256) (b * 256 + y) m (omega (arith, le))

comes_before : (k a : ℕ) (n m : List ℕ) → IsBytes n → IsBytes m → gathered a k n < gathered a k m → name_cmp n m ≡ Less
comes_before zero a n m hn hm lt = absurd (omega (arith, lt))
comes_before (suc k) a [] [] hn hm lt = absurd (omega (arith, lt))
comes_before (suc k) a [] (y ∷ m) hn hm lt = refl
comes_before (suc k) a (x ∷ n) [] hn hm lt = absurd (omega (arith, lt, least k (a * 256) (a * 256 + x) n (omega arith)))
comes_before (suc k) a (x ∷ n) (y ∷ m) hn hm lt =
    elim (nat_cmp x y) as (λ o. nat_cmp x y ≡ o → ordering_then o (name_cmp n m) ≡ Less) [
      | Less ↦ λ e. refl
      | Equal ↦ λ e. comes_before k (a * 256 + x) n m (λ i. hn (suc i)) (λ i. hm (suc i)) (subst (λ z. gathered (a * 256 + x) k n < gathered (a * 256 + z) k m) (sym (same x y e)) lt)
      | Greater ↦ λ e.
          let later : a * 256 + y < a * 256 + x = omega (arith, above x y e) in
          absurd (omega (arith, lt, rises k (a * 256 + y) (a * 256 + x) m n (λ i. hm (suc i)) later))
    ] refl

-- the order seen from the other side
turned : (n m : Name) → name_cmp m n ≡ Less → name_cmp n m ≡ Greater
turned n m e = names_total.antisymm n m ∙ ap ordering_reverse e

module _ (n m : Name) (x y : ℕ) (hn : IsHeaded x n) (hm : IsHeaded y m) where
  pub by_head_less : nat_cmp x y ≡ Less → name_cmp n m ≡ Less
  by_head_less e = comes_before 8 0 n m hn.bytes hm.bytes (omega (arith, below x y e, hn.head, hm.head))

  pub by_head_greater : nat_cmp x y ≡ Greater → name_cmp n m ≡ Greater
  by_head_greater e = turned n m (comes_before 8 0 m n hm.bytes hn.bytes (omega (arith, above x y e, hn.head, hm.head)))
