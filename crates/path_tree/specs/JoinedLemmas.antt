-- What a joined map has at a path, and its entries.
use Rattle.std.proofs.Common.{◌≡◌, suc, ◌+◌, ◌≤◌, max, Bool, true, false, cond, ◌&&◌, T, List, [], ◌∷◌, ◌++◌, length, Option, Some, None, refl, sym, ap, ◌∙◌, arith, length-append}
use Rattle.std.specs.Option.{option_and_then, option_or}
use Rattle.std.specs.declared.cmp.Ordering.{Ordering}
use Rattle.std.specs.declared.cmp.Ordering.TheVariants.{Less, Equal, Greater}
use Rattle.std.specs.Ordering.{is_lt, ordering_then}
use Rattle.std.specs.FinMap.{find, is_sorted, get, entries, get-entries, get-from_entries, get-from_sorted, same_map, entries_sorted, entries-from_sorted, from_sorted, from_entries, len, len-entries}
use Rattle.std.specs.FinMap.Entries.{below_all}
use Rattle.std.proofs.lemmas.Cmp.{tied_itself}
use denote.Param.Weighed.{most}
use Rattle.node_base.specs.Path.{Name, Path, name_cmp, path_cmp, names_total, paths_total, paths_exact, same_name, same_path}
use Rattle.node_base.proofs.PathLemmas.{same_path-cons, name_of_same}
use Rattle.node_base.specs.declared.node.Node.{Node}
use Rattle.node_base.specs.Tree.{PathMap}
use Rattle.path_tree.specs.Joined.{behind, below, joined, AreChildren, child_at}

pub find-append : (q : Path) (es fs : List (Path × Node)) → find path_cmp q (es ++ fs) ≡ option_or (find path_cmp q es) (find path_cmp q fs)
find-append q [] fs = refl
find-append q (e ∷ es) fs = elim (same_path q e.0) as (λ b. cond b (Some e.1) (find path_cmp q (es ++ fs)) ≡ option_or (cond b (Some e.1) (find path_cmp q es)) (find path_cmp q fs)) [ true ↦ refl | false ↦ find-append q es fs ]

find-behind_root : (n : Name) (es : List (Path × Node)) → find path_cmp [] (behind n es) ≡ None
find-behind_root n [] = refl
find-behind_root n (e ∷ es) = find-behind_root n es

pub find-behind : (x : Name) (q : Path) (n : Name) (es : List (Path × Node)) → find path_cmp (x ∷ q) (behind n es) ≡ cond (same_name x n) (find path_cmp q es) None
find-behind x q n [] = elim (same_name x n) as (λ b. ◌≡◌ {A = Option Node} None (cond b None None)) [ true ↦ refl | false ↦ refl ]
find-behind x q n (e ∷ es) =
    rw (same_path-cons x q n e.0, find-behind x q n es)
    (elim (same_name x n) as (λ b. cond (b && same_path q e.0) (Some e.1) (cond b (find path_cmp q es) None) ≡ cond b (cond (same_path q e.0) (Some e.1) (find path_cmp q es)) None) [ true ↦ refl | false ↦ refl ])

find-below_root : (cs : List (Name × PathMap)) → find path_cmp [] (below cs) ≡ None
find-below_root [] = refl
find-below_root (c ∷ cs) = find-append [] (behind c.0 (entries c.1)) (below cs) ∙ rw (find-behind_root c.0 (entries c.1)) (find-below_root cs)

pub both_true : (a b : Bool) → T (a && b) → T a × T b
both_true true b h = (tt, h)
both_true false b h = absurd h

pub true_both : (a b : Bool) → T a → T b → T (a && b)
true_both true b p q = q
true_both false b p q = p

pub less_than : (r : Ordering) → T (is_lt r) → r ≡ Less
less_than Less h = refl
less_than Equal h = absurd h
less_than Greater h = absurd h

-- a name below all children is the name of none
pub find_absent : {X : Type 0} (x : Name) (cs : List (Name × X)) → T (below_all name_cmp x cs) → find name_cmp x cs ≡ None
find_absent x [] h = refl
find_absent x (c ∷ cs) h = let b = both_true _ _ h in rw (less_than (name_cmp x c.0) b.0) (find_absent x cs b.1)

pub find-below : (x : Name) (q : Path) (cs : List (Name × PathMap)) → AreChildren cs → find path_cmp (x ∷ q) (below cs) ≡ child_at cs x q
find-below x q [] h = refl
find-below x q (c ∷ cs) h =
    let b = both_true _ _ h in
    let rest = find-below x q cs b.1 in
    find-append (x ∷ q) (behind c.0 (entries c.1)) (below cs)
    ∙ rw (find-behind x q c.0 (entries c.1))
    (elim (same_name x c.0) as (λ t. same_name x c.0 ≡ t → option_or (cond t (find path_cmp q (entries c.1)) None) (find path_cmp (x ∷ q) (below cs)) ≡ option_and_then (λ m. get m q) (cond t (Some c.1) (find name_cmp x cs))) [
      | true ↦ λ t. let none : find path_cmp (x ∷ q) (below cs) ≡ None = rest ∙ ap (option_and_then (λ (m : PathMap). get m q)) (find_absent x cs (rw (name_of_same x c.0 t) b.0)) in
          rw none (or_none _) ∙ sym (get-entries c.1 q)
      | false ↦ λ t. rest
    ] refl)
  where
    or_none : (o : Option Node) → option_or o None ≡ o
    or_none None = refl
    or_none (Some y) = refl

pub get-joined_root : (n : Node) (cs : List (Name × PathMap)) → get (joined n cs) [] ≡ Some n
get-joined_root n cs = get-from_entries paths_total (([], n) ∷ below cs) []

pub get-joined : (n : Node) (cs : List (Name × PathMap)) → AreChildren cs → (x : Name) (q : Path) → get (joined n cs) (x ∷ q) ≡ child_at cs x q
get-joined n cs h x q = get-from_entries paths_total (([], n) ∷ below cs) (x ∷ q) ∙ find-below x q cs h

-- what is above all entries of two lists is above those of both
below-append : (p : Path) (es fs : List (Path × Node)) → T (below_all path_cmp p es) → T (below_all path_cmp p fs) → T (below_all path_cmp p (es ++ fs))
below-append p [] fs h g = g
below-append p (e ∷ es) fs h g = let b = both_true _ _ h in true_both _ _ b.0 (below-append p es fs b.1 g)

-- each entry of the first list is below each of the second
Precede : List (Path × Node) → List (Path × Node) → Type 0
Precede [] fs = Unit {0}
Precede (e ∷ es) fs = T (below_all path_cmp e.0 fs) × Precede es fs

sorted-append : (es fs : List (Path × Node)) → T (is_sorted path_cmp es) → T (is_sorted path_cmp fs) → Precede es fs → T (is_sorted path_cmp (es ++ fs))
unfolding Precede
sorted-append [] fs h g p = g
sorted-append (e ∷ es) fs h g p = let b = both_true _ _ h in true_both _ _ (below-append e.0 es fs b.0 p.0) (sorted-append es fs b.1 g p.1)

cmp_same : (n : Name) (p q : Path) → path_cmp (n ∷ p) (n ∷ q) ≡ path_cmp p q
cmp_same n p q = ap (λ r. ordering_then r (path_cmp p q)) (tied_itself names_total n)

below-behind : (n : Name) (p : Path) (es : List (Path × Node)) → T (below_all path_cmp p es) → T (below_all path_cmp (n ∷ p) (behind n es))
below-behind n p [] h = tt
below-behind n p (e ∷ es) h = let b = both_true _ _ h in true_both _ _ (rw (cmp_same n p e.0) b.0) (below-behind n p es b.1)

sorted-behind : (n : Name) (es : List (Path × Node)) → T (is_sorted path_cmp es) → T (is_sorted path_cmp (behind n es))
sorted-behind n [] h = tt
sorted-behind n (e ∷ es) h = let b = both_true _ _ h in true_both _ _ (below-behind n e.0 es b.0) (sorted-behind n es b.1)

-- a smaller name comes first, whatever follows
below-later_name : (x : Name) (p : Path) (n : Name) (es : List (Path × Node)) → T (is_lt (name_cmp x n)) → T (below_all path_cmp (x ∷ p) (behind n es))
below-later_name x p n [] h = tt
below-later_name x p n (e ∷ es) h = true_both _ _ (rw (less_than (name_cmp x n) h) tt) (below-later_name x p n es h)

below-later_names : (x : Name) (p : Path) (cs : List (Name × PathMap)) → T (below_all name_cmp x cs) → T (below_all path_cmp (x ∷ p) (below cs))
below-later_names x p [] h = tt
below-later_names x p (c ∷ cs) h = let b = both_true _ _ h in below-append (x ∷ p) (behind c.0 (entries c.1)) (below cs) (below-later_name x p c.0 (entries c.1) b.0) (below-later_names x p cs b.1)

precede-behind : (n : Name) (es : List (Path × Node)) (cs : List (Name × PathMap)) → T (below_all name_cmp n cs) → Precede (behind n es) (below cs)
unfolding Precede
precede-behind n [] cs h = tt
precede-behind n (e ∷ es) cs h = (below-later_names n e.0 cs h, precede-behind n es cs h)

sorted-below : (cs : List (Name × PathMap)) → AreChildren cs → T (is_sorted path_cmp (below cs))
sorted-below [] h = tt
sorted-below (c ∷ cs) h =
    let b = both_true _ _ h in
    sorted-append (behind c.0 (entries c.1)) (below cs) (sorted-behind c.0 (entries c.1) (entries_sorted c.1)) (sorted-below cs b.1) (precede-behind c.0 (entries c.1) cs b.0)

root_below_behind : (n : Name) (es : List (Path × Node)) → T (below_all path_cmp [] (behind n es))
root_below_behind n [] = tt
root_below_behind n (e ∷ es) = root_below_behind n es

root_below : (cs : List (Name × PathMap)) → T (below_all path_cmp [] (below cs))
root_below [] = tt
root_below (c ∷ cs) = below-append [] (behind c.0 (entries c.1)) (below cs) (root_below_behind c.0 (entries c.1)) (root_below cs)

-- the entries of sorted entries are these
entries-from_entries : (es : List (Path × Node)) → T (is_sorted path_cmp es) → entries (from_entries {R = path_cmp} es) ≡ es
entries-from_entries es h =
    ap entries (same_map paths_total paths_exact (from_entries es) (from_sorted es) (λ q. get-from_entries paths_total es q ∙ sym (get-from_sorted path_cmp es q h)))
    ∙ entries-from_sorted path_cmp es h

-- the root first, then what is below, child by child
pub entries-joined : (n : Node) (cs : List (Name × PathMap)) → AreChildren cs → entries (joined n cs) ≡ ([], n) ∷ below cs
entries-joined n cs h = entries-from_entries (([], n) ∷ below cs) (true_both _ _ (root_below cs) (sorted-below cs h))

pub length-behind : (n : Name) (es : List (Path × Node)) → length (behind n es) ≡ length es
length-behind n [] = refl
length-behind n (e ∷ es) = ap suc (length-behind n es)

most_le-below : (cs : List (Name × PathMap)) → most (λ c. max 0 (max (len c.1 + 1) 0)) cs ≤ length (below cs) + 1
most_le-below [] = omega arith
most_le-below (c ∷ cs) = omega (arith, most_le-below cs, length-append (behind c.0 (entries c.1)) (below cs), length-behind c.0 (entries c.1), len-entries c.1)

-- no child has as many nodes as the whole
pub most_lt-joined : (n : Node) (cs : List (Name × PathMap)) → AreChildren cs → max (most (λ c. max 0 (max (len c.1 + 1) 0)) cs) 0 ≤ len (joined n cs)
most_lt-joined n cs h = omega (arith, most_le-below cs, len-entries (joined n cs), ap length (entries-joined n cs h))
