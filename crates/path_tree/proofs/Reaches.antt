-- How far paths reach: of more paths, behind a name, and by the limits.
use Rattle.std.proofs.Common.{◌≡◌, ℕ, ◌+◌, max, false, not, ◌&&◌, ◌||◌, List, [], ◌∷◌, ◌++◌, map, length, refl, sym, ap, ◌∙◌, arith}
use Rattle.std.specs.Prelude.{nat_lt, nat_le}
use Rattle.std.specs.List.{list_any}
use Rattle.std.specs.FinMap.{entries, keys}
use Rattle.std.proofs.lemmas.Bool.Decides.{nat_tests}
use Rattle.node_base.specs.Path.{Name, Path}
use Rattle.node_base.specs.Limits.{weight, fits_after}
use Rattle.node_base.specs.declared.node.Node.{Node}
use Rattle.node_base.specs.Tree.{PathMap}
use Rattle.path_tree.specs.declared.reach.Reach.{Reach}
use Rattle.path_tree.specs.Joined.{behind, below, joined, AreChildren}
use Rattle.path_tree.specs.JoinedLemmas.{entries-joined}
use Rattle.path_tree.specs.RowLemmas.{below-append}
use Rattle.path_tree.specs.Reach.{greatest, held, farthest, reach_of, reach_to, either, behind_name, past}

-- ---- counts

pub same_reach : (a b : Reach) → a.names ≡ b.names → a.bytes ≡ b.bytes → a ≡ b
same_reach a b e f = λ i. record { names = e i; bytes = f i }

held_max : (a b : ℕ) → held (max a b) ≡ max (held a) (held b)
held_max a b = omega arith

either_later : (a b c : Reach) → either a (either b c) ≡ either (either a b) c
either_later a b c = same_reach (either a (either b c)) (either (either a b) c) (omega arith) (omega arith)

-- ---- more paths

greatest-append : (f : Path → ℕ) (ks ls : List Path) → greatest f (ks ++ ls) ≡ max (greatest f ks) (greatest f ls)
greatest-append f [] ls = omega arith
greatest-append f (k ∷ ks) ls = omega (arith, greatest-append f ks ls)

paths-append : (es fs : List (Path × Node)) → map (λ e. e.0) (es ++ fs) ≡ map (λ e. e.0) es ++ map (λ e. e.0) fs
paths-append [] fs = refl
paths-append (e ∷ es) fs = ap (λ s. e.0 ∷ s) (paths-append es fs)

farthest-append : (ks ls : List Path) → farthest (ks ++ ls) ≡ either (farthest ks) (farthest ls)
farthest-append ks ls =
    same_reach (farthest (ks ++ ls)) (either (farthest ks) (farthest ls))
    (ap held (greatest-append length ks ls) ∙ held_max (greatest length ks) (greatest length ls))
    (ap held (greatest-append weight ks ls) ∙ held_max (greatest weight ks) (greatest weight ls))

pub reach_of-cons : (c : Name × PathMap) (cs : List (Name × PathMap)) → reach_of (c ∷ cs) ≡ either (reach_to c) (reach_of cs)
reach_of-cons c cs = ap farthest (paths-append (behind c.0 (entries c.1)) (below cs)) ∙ farthest-append (map (λ e. e.0) (behind c.0 (entries c.1))) (map (λ e. e.0) (below cs))

-- a child between those before it and those behind it
pub reach-joint : (l : List (Name × PathMap)) (c : Name × PathMap) (r : List (Name × PathMap)) → reach_of (l ++ c ∷ r) ≡ either (either (reach_of l) (reach_to c)) (reach_of r)
reach-joint l c r =
    ap (λ z. farthest (map (λ e. e.0) z)) (below-append l (c ∷ r))
    ∙ ap farthest (paths-append (below l) (below (c ∷ r)))
    ∙ farthest-append (map (λ e. e.0) (below l)) (map (λ e. e.0) (below (c ∷ r)))
    ∙ ap (either (reach_of l)) (reach_of-cons c r)
    ∙ either_later (reach_of l) (reach_to c) (reach_of r)

-- ---- behind a name

greatest-behind : (f : Path → ℕ) (x : Name) (a : ℕ) → ((k : Path) → f (x ∷ k) ≡ a + f k) → (e : Path × Node) (es : List (Path × Node)) → greatest f (map (λ e. e.0) (behind x (e ∷ es))) ≡ a + greatest f (map (λ e. e.0) (e ∷ es))
greatest-behind f x a h e [] = omega (arith, h e.0)
greatest-behind f x a h e (d ∷ es) = omega (arith, h e.0, greatest-behind f x a h d es)

-- a child's reach, by that of the paths below it
pub reach-behind : (x : Name) (n : Node) (cs : List (Name × PathMap)) → AreChildren cs → (m : PathMap) → joined n cs ≡ m → (r : Reach) → r ≡ reach_of cs → behind_name x r ≡ reach_to (x, m)
reach-behind x n cs s m is r e =
    let ks = map (λ e. e.0) (below cs) in
    let names = greatest-behind length x 1 (λ k. omega arith) ([], n) (below cs) in
    let bytes = greatest-behind weight x (length x + 1) (λ k. omega arith) ([], n) (below cs) in
    ap (behind_name x) e
    ∙ same_reach (behind_name x (reach_of cs)) (farthest (map (λ e. e.0) (behind x (([], n) ∷ below cs)))) (omega (arith, names)) (omega (arith, bytes))
    ∙ ap (λ es. farthest (map (λ e. e.0) (behind x es))) (sym (entries-joined n cs s) ∙ ap entries is)

-- ---- by the limits

past_any : (a b : ℕ) (k : Path) (ks : List Path) → list_any (λ k. not (fits_after a b k)) (k ∷ ks) ≡ (nat_lt 64 (a + greatest length (k ∷ ks)) || nat_lt 1025 (b + greatest weight (k ∷ ks)))
past_any a b k [] = one a b (length k) (weight k) (max (length k) 0) (max (weight k) 0) (omega arith) (omega arith)
  where
    one : (a b m n m' n' : ℕ) → m' ≡ m → n' ≡ n → (not (nat_le (a + m) 64 && nat_le (b + n) 1025) || false) ≡ (nat_lt 64 (a + m') || nat_lt 1025 (b + n'))
    one a b m n m' n' e f = grind (arith, nat_tests)
past_any a b k (l ∷ ks) = ap (λ t. not (fits_after a b k) || t) (past_any a b l ks) ∙ more a b (length k) (weight k) (greatest length (l ∷ ks)) (greatest weight (l ∷ ks))
  where
    more : (a b m n o p : ℕ) → (not (nat_le (a + m) 64 && nat_le (b + n) 1025) || (nat_lt 64 (a + o) || nat_lt 1025 (b + p))) ≡ (nat_lt 64 (a + max m o) || nat_lt 1025 (b + max n p))
    more a b m n o p = grind (arith, nat_tests)

past_held : (a b m n : ℕ) → (nat_lt 64 (a + held m) || nat_lt 1025 (b + held n)) ≡ (nat_lt 64 (a + max 0 m) || nat_lt 1025 (b + max 0 n))
past_held a b m n = grind (arith, nat_tests)

-- whether some path is past the limits, by the reach below the root
pub past_limits : (a b : ℕ) (n : Node) (cs : List (Name × PathMap)) → AreChildren cs → (m : PathMap) → joined n cs ≡ m → (r : Reach) → r ≡ reach_of cs → past a b r ≡ list_any (λ k. not (fits_after a b k)) (keys m)
past_limits a b n cs s m is r e =
    let ks = map (λ e. e.0) (below cs) in
    ap (past a b) e
    ∙ past_held a b (greatest length ks) (greatest weight ks)
    ∙ sym (past_any a b [] ks)
    ∙ ap (λ z. list_any (λ k. not (fits_after a b k)) (map (λ e. e.0) z)) (sym (entries-joined n cs s) ∙ ap entries is)
