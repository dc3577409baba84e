-- Paths that are too long.
use Rattle.std.proofs.Common.{◌⊎◌, inl, inr, ◌≡◌, ℕ, suc, ◌+◌, ◌<◌, ◌≤◌, Bool, true, false, not, ◌&&◌, ◌||◌, List, [], ◌∷◌, ◌++◌, map, length, drop, get_or, refl, sym, ap, ◌∙◌, add-one, drop-cons, arith}
use Rattle.std.specs.Prelude.{nat_le}
use Rattle.std.specs.List.{list_any}
use Rattle.std.specs.FinMap.{entries, keys}
use Rattle.std.proofs.lemmas.Bool.Decides.{nat_tests}
use Rattle.std.proofs.lemmas.List.{drop_all}
use Rattle.node_base.specs.Path.{Name, Path}
use Rattle.node_base.specs.Limits.{weight, fits_after}
use Rattle.node_base.specs.declared.node.Node.{Node}
use Rattle.node_base.specs.Tree.{PathMap}
use Rattle.path_tree.specs.Joined.{behind, below, joined, AreChildren}
use Rattle.path_tree.specs.JoinedLemmas.{entries-joined}

abbrev pub too_long : ℕ → ℕ → Path → Bool
too_long a b k = not (fits_after a b k)

-- some key of the entries is too long
abbrev pub any_long : ℕ → ℕ → List (Path × Node) → Bool
any_long a b es = list_any (too_long a b) (map (λ e. e.0) es)

any_long-append : (a b : ℕ) (es fs : List (Path × Node)) → any_long a b (es ++ fs) ≡ (any_long a b es || any_long a b fs)
any_long-append a b [] fs = refl
any_long-append a b (e ∷ es) fs = elim (too_long a b e.0) as (λ t. (t || any_long a b (es ++ fs)) ≡ ((t || any_long a b es) || any_long a b fs)) [ true ↦ refl | false ↦ any_long-append a b es fs ]

too_long_behind : (a b : ℕ) (n : Name) (k : Path) → too_long a b (n ∷ k) ≡ too_long (a + 1) (b + length n + 1) k
too_long_behind a b n k =
    let names : a + suc (length k) ≡ a + 1 + length k = omega arith in
    let bytes : b + (length n + 1 + weight k) ≡ b + length n + 1 + weight k = omega arith in
    λ i. not (nat_le (names i) 64 && nat_le (bytes i) 1025)

any_long-behind : (a b : ℕ) (n : Name) (es : List (Path × Node)) → any_long a b (behind n es) ≡ any_long (a + 1) (b + length n + 1) es
any_long-behind a b n [] = refl
any_long-behind a b n (e ∷ es) = λ i. too_long_behind a b n e.0 i || any_long-behind a b n es i

-- a bound that is passed already is passed at the root
pub long_here : (a b : ℕ) (n : Node) (cs : List (Name × PathMap)) → AreChildren cs → (m : PathMap) → joined n cs ≡ m → (64 < a) ⊎ (1025 < b) → list_any (too_long a b) (keys m) ≡ true
long_here a b n cs s m is h =
    ap (λ z. list_any (too_long a b) (map (λ e. e.0) z)) (ap entries (sym is) ∙ entries-joined n cs s)
    ∙ ap (λ t. t || any_long a b (below cs)) (passed h)
  where
    passed : (64 < a) ⊎ (1025 < b) → too_long a b [] ≡ true
    passed (inl h) = grind (arith, nat_tests)
    passed (inr h) = grind (arith, nat_tests)

-- the same behind a path
pub long_behind : (a b : ℕ) (p : Path) (n : Node) (cs : List (Name × PathMap)) → AreChildren cs → (m : PathMap) → joined n cs ≡ m → (64 < a) ⊎ (1025 < b) → list_any (λ k. too_long a b (p ++ k)) (keys m) ≡ true
long_behind a b p n cs s m is h =
    ap (λ z. list_any (λ k. too_long a b (p ++ k)) (map (λ e. e.0) z)) (ap entries (sym is) ∙ entries-joined n cs s)
    ∙ ap (λ t. t || list_any (λ k. too_long a b (p ++ k)) (map (λ e. e.0) (below cs))) (passed (p ++ []) h)
  where
    passed : (q : Path) → (64 < a) ⊎ (1025 < b) → too_long a b q ≡ true
    passed q (inl h) = grind (arith, nat_tests)
    passed q (inr h) = grind (arith, nat_tests)

-- a name more in front
pub long_more : (a b : ℕ) (x : Name) (p path : Path) (ks : List Path) → path ≡ x ∷ p → list_any (λ k. too_long (a + 1) (b + length x + 1) (p ++ k)) ks ≡ list_any (λ k. too_long a b (path ++ k)) ks
long_more a b x p path ks e = sym (ap (λ z. list_any (λ k. too_long a b (z ++ k)) ks) e ∙ ap (λ (f : Path → Bool). list_any f ks) (λ i k. too_long_behind a b x (p ++ k) i))

module _ (a b : ℕ) where
  pub long_begin : (n : Node) (cs : List (Name × PathMap)) → AreChildren cs → (m : PathMap) → joined n cs ≡ m → a ≤ 64 → b ≤ 1025 → list_any (too_long a b) (keys m) ≡ any_long a b (below cs)
  long_begin n cs s m is ha hb =
      let within : too_long a b [] ≡ false = grind (arith, nat_tests) in
      ap (λ z. list_any (too_long a b) (map (λ e. e.0) z)) (ap entries (sym is) ∙ entries-joined n cs s) ∙ ap (λ t. t || any_long a b (below cs)) within

  long_child : (cs : List (Name × PathMap)) (i : ℕ) (c : Name × PathMap) → i < length cs → c ≡ get_or cs i c → any_long a b (below (drop i cs)) ≡ (list_any (too_long (a + 1) (b + length c.0 + 1)) (keys c.1) || any_long a b (below (drop (i + 1) cs)))
  long_child cs i c here is =
      let split : drop i cs ≡ c ∷ drop (i + 1) cs = rw (add-one i) (drop-cons cs i c here ∙ ap (λ y. y ∷ drop (suc i) cs) (sym is)) in
      ap (λ z. any_long a b (below z)) split
      ∙ any_long-append a b (behind c.0 (entries c.1)) (below (drop (i + 1) cs))
      ∙ ap (λ t. t || any_long a b (below (drop (i + 1) cs))) (any_long-behind a b c.0 (entries c.1))

  pub long_found : (cs : List (Name × PathMap)) (i : ℕ) (c : Name × PathMap) → i < length cs → c ≡ get_or cs i c → list_any (too_long (a + 1) (b + length c.0 + 1)) (keys c.1) ≡ true → any_long a b (below (drop i cs)) ≡ true
  long_found cs i c here is e = long_child cs i c here is ∙ ap (λ t. t || any_long a b (below (drop (i + 1) cs))) e

  pub long_next : (cs : List (Name × PathMap)) (i : ℕ) (c : Name × PathMap) → i < length cs → c ≡ get_or cs i c → list_any (too_long (a + 1) (b + length c.0 + 1)) (keys c.1) ≡ false → any_long a b (below (drop i cs)) ≡ any_long a b (below (drop (i + 1) cs))
  long_next cs i c here is e = long_child cs i c here is ∙ ap (λ t. t || any_long a b (below (drop (i + 1) cs))) e

  pub long_end : (cs : List (Name × PathMap)) (i : ℕ) → length cs ≤ i → any_long a b (below (drop i cs)) ≡ false
  long_end cs i h = ap (λ z. any_long a b (below z)) (drop_all i cs h)
