-- What two merged listings have at a path, and their order.
use Rattle.std.proofs.Common.{◌≡◌, Bool, true, false, cond, T, List, [], ◌∷◌, map, Option, Some, None, refl, sym, ap, subst, ◌∙◌}
use Rattle.std.specs.declared.cmp.Ordering.{Ordering}
use Rattle.std.specs.declared.cmp.Ordering.TheVariants.{Less, Equal, Greater}
use Rattle.std.specs.Ordering.{is_lt, ordering_reverse}
use Rattle.std.specs.FinMap.{find, is_sorted}
use Rattle.std.specs.FinMap.Entries.{below_all, by_order}
use Rattle.node_base.specs.Path.{Path, path_cmp, paths_total, paths_exact, same_path}
use Rattle.node_base.proofs.PathLemmas.{path_of_same}
use Rattle.node_base.specs.declared.node.Node.{Node}
use Rattle.path_tree.specs.JoinedLemmas.{both_true, true_both, less_than}
use Rattle.tree_reports.specs.Merged.{Both, only_old, only_new, in_both, among, merged}

-- a path before another one is before all that comes behind that
pub below_less : {X : Type 0} (p q : Path) (es : List (Path × X)) → path_cmp p q ≡ Less → T (below_all path_cmp q es) → T (below_all path_cmp p es)
below_less p q [] l h = tt
below_less p q (e ∷ es) l h =
    let b = both_true _ _ h in
    true_both _ _ (subst (λ r. T (is_lt r)) (sym (paths_total.trans p q e.0 l (less_than _ b.0))) tt) (below_less p q es l b.1)

-- a path before all is none of them
pub find_below : {X : Type 0} (p : Path) (es : List (Path × X)) → T (below_all path_cmp p es) → find path_cmp p es ≡ None
find_below p [] h = refl
find_below p (e ∷ es) h = let b = both_true _ _ h in rw (less_than (path_cmp p e.0) b.0) (find_below p es b.1)

lt_of : (r : Ordering) → r ≡ Less → T (is_lt r)
lt_of r e = subst (λ s. T (is_lt s)) (sym e) tt

turned : (p q : Path) → path_cmp p q ≡ Greater → path_cmp q p ≡ Less
turned p q e = paths_total.antisymm q p ∙ ap ordering_reverse e

pub before_first : {X : Type 0} (p : Path) (e : Path × X) (es : List (Path × X)) → path_cmp p e.0 ≡ Less → T (is_sorted path_cmp (e ∷ es)) → T (below_all path_cmp p (e ∷ es))
before_first p e es l h = true_both _ _ (lt_of _ l) (below_less p e.0 es l (both_true _ _ h).0)

below_only_new : (p : Path) (ys : List (Path × Node)) → T (below_all path_cmp p ys) → T (below_all path_cmp p (map only_new ys))
below_only_new p [] h = tt
below_only_new p (y ∷ ys) h = let b = both_true _ _ h in true_both _ _ b.0 (below_only_new p ys b.1)

below-among : (p : Path) (x : Path × Node) (behind : List (Path × Node) → List (Path × Both)) → T (is_lt (path_cmp p x.0)) → ((ys : List (Path × Node)) → T (below_all path_cmp p ys) → T (below_all path_cmp p (behind ys))) → (ys : List (Path × Node)) → T (below_all path_cmp p ys) → T (below_all path_cmp p (among x behind ys))
below-among p x behind l rest [] h = true_both _ _ l (rest [] tt)
below-among p x behind l rest (y ∷ ys) h =
    let b = both_true _ _ h in
    elim (path_cmp x.0 y.0) as (λ r. T (below_all path_cmp p (by_order r (only_old x ∷ behind (y ∷ ys)) (in_both x y ∷ behind ys) (only_new y ∷ among x behind ys)))) [
      | Less ↦ true_both _ _ l (rest (y ∷ ys) h)
      | Equal ↦ true_both _ _ l (rest ys b.1)
      | Greater ↦ true_both _ _ b.0 (below-among p x behind l rest ys b.1)
    ]

pub below-merged : (p : Path) (xs ys : List (Path × Node)) → T (below_all path_cmp p xs) → T (below_all path_cmp p ys) → T (below_all path_cmp p (merged xs ys))
below-merged p [] ys g h = below_only_new p ys h
below-merged p (x ∷ xs) ys g h = let b = both_true _ _ g in below-among p x (merged xs) b.0 (λ zs. below-merged p xs zs b.1) ys h

sorted_only_new : (ys : List (Path × Node)) → T (is_sorted path_cmp ys) → T (is_sorted path_cmp (map only_new ys))
sorted_only_new [] h = tt
sorted_only_new (y ∷ ys) h = let b = both_true _ _ h in true_both _ _ (below_only_new y.0 ys b.0) (sorted_only_new ys b.1)

sorted-among : (x : Path × Node) (xs : List (Path × Node)) → T (below_all path_cmp x.0 xs) → ((ys : List (Path × Node)) → T (is_sorted path_cmp ys) → T (is_sorted path_cmp (merged xs ys))) → (ys : List (Path × Node)) → T (is_sorted path_cmp ys) → T (is_sorted path_cmp (among x (merged xs) ys))
sorted-among x xs g rest [] h = true_both _ _ (below-merged x.0 xs [] g tt) (rest [] tt)
sorted-among x xs g rest (y ∷ ys) h =
    let b = both_true _ _ h in
    elim (path_cmp x.0 y.0) as (λ r. path_cmp x.0 y.0 ≡ r → T (is_sorted path_cmp (by_order r (only_old x ∷ merged xs (y ∷ ys)) (in_both x y ∷ merged xs ys) (only_new y ∷ among x (merged xs) ys)))) [
      | Less ↦ λ l. true_both _ _ (below-merged x.0 xs (y ∷ ys) g (before_first x.0 y ys l h)) (rest (y ∷ ys) h)
      | Equal ↦ λ s. true_both _ _ (below-merged x.0 xs ys g (subst (λ p. T (below_all path_cmp p ys)) (sym (paths_exact x.0 y.0 s)) b.0)) (rest ys b.1)
      | Greater ↦ λ l. true_both _ _ (below-merged y.0 (x ∷ xs) ys (true_both _ _ (lt_of _ (turned x.0 y.0 l)) (below_less y.0 x.0 xs (turned x.0 y.0 l) g)) b.0) (sorted-among x xs g rest ys b.1)
    ] refl

pub sorted-merged : (xs ys : List (Path × Node)) → T (is_sorted path_cmp xs) → T (is_sorted path_cmp ys) → T (is_sorted path_cmp (merged xs ys))
sorted-merged [] ys g h = sorted_only_new ys h
sorted-merged (x ∷ xs) ys g h = let b = both_true _ _ g in sorted-among x xs b.0 (λ zs. sorted-merged xs zs b.1) ys h

-- what stands in two listings, where something stands in one of them
abbrev pub both_found : Option Node → Option Node → Option Both
both_found None None = None
both_found None (Some y) = Some (record { old = None; new = Some y })
both_found (Some x) b = Some (record { old = Some x; new = b })

new_found : (o : Option Node) (y : Node) (b : Bool) → cond b (Some (record { old = None; new = Some y })) (both_found None o) ≡ both_found None (cond b (Some y) o)
new_found o y true = refl
new_found o y false = refl

find-only_new : (q : Path) (ys : List (Path × Node)) → find path_cmp q (map only_new ys) ≡ both_found None (find path_cmp q ys)
find-only_new q [] = refl
find-only_new q (y ∷ ys) = ap (cond (same_path q y.0) (Some (record { old = None; new = Some y.1 }))) (find-only_new q ys) ∙ new_found (find path_cmp q ys) y.1 (same_path q y.0)

find-among : (q : Path) (x : Path × Node) (xs : List (Path × Node)) → T (below_all path_cmp x.0 xs) → ((ys : List (Path × Node)) → T (is_sorted path_cmp ys) → find path_cmp q (merged xs ys) ≡ both_found (find path_cmp q xs) (find path_cmp q ys)) → (ys : List (Path × Node)) → T (is_sorted path_cmp ys) → find path_cmp q (among x (merged xs) ys) ≡ both_found (find path_cmp q (x ∷ xs)) (find path_cmp q ys)
find-among q x xs g rest [] h =
    elim (same_path q x.0) as (λ b. cond b (Some (record { old = Some x.1; new = None })) (find path_cmp q (merged xs [])) ≡ both_found (cond b (Some x.1) (find path_cmp q xs)) None) [
      | true ↦ refl
      | false ↦ rest [] tt
    ]
find-among q x xs g rest (y ∷ ys) h =
    let b = both_true _ _ h in
    elim (path_cmp x.0 y.0) as (λ r. path_cmp x.0 y.0 ≡ r → find path_cmp q (by_order r (only_old x ∷ merged xs (y ∷ ys)) (in_both x y ∷ merged xs ys) (only_new y ∷ among x (merged xs) ys)) ≡ both_found (find path_cmp q (x ∷ xs)) (find path_cmp q (y ∷ ys))) [
      | Less ↦ λ l. elim (same_path q x.0) as (λ t. same_path q x.0 ≡ t → cond t (Some (record { old = Some x.1; new = None })) (find path_cmp q (merged xs (y ∷ ys))) ≡ both_found (cond t (Some x.1) (find path_cmp q xs)) (find path_cmp q (y ∷ ys))) [
        | true ↦ λ t. ap (λ o. Some (record { old = Some x.1; new = o })) (sym (find_below q (y ∷ ys) (subst (λ p. T (below_all path_cmp p (y ∷ ys))) (sym (path_of_same q x.0 t)) (before_first x.0 y ys l h))))
        | false ↦ λ _. rest (y ∷ ys) h
      ] refl
      | Equal ↦ λ s. subst (λ p. find path_cmp q (in_both x y ∷ merged xs ys) ≡ both_found (find path_cmp q (x ∷ xs)) (find path_cmp q ((p, y.1) ∷ ys))) (paths_exact x.0 y.0 s)
          (elim (same_path q x.0) as (λ t. cond t (Some (record { old = Some x.1; new = Some y.1 })) (find path_cmp q (merged xs ys)) ≡ both_found (cond t (Some x.1) (find path_cmp q xs)) (cond t (Some y.1) (find path_cmp q ys))) [
            | true ↦ refl
            | false ↦ rest ys b.1
          ])
      | Greater ↦ λ l. elim (same_path q y.0) as (λ t. same_path q y.0 ≡ t → cond t (Some (record { old = None; new = Some y.1 })) (find path_cmp q (among x (merged xs) ys)) ≡ both_found (find path_cmp q (x ∷ xs)) (cond t (Some y.1) (find path_cmp q ys))) [
        | true ↦ λ t. ap (λ o. both_found o (Some y.1)) (sym (find_below q (x ∷ xs) (subst (λ p. T (below_all path_cmp p (x ∷ xs))) (sym (path_of_same q y.0 t)) (true_both _ _ (lt_of _ (turned x.0 y.0 l)) (below_less y.0 x.0 xs (turned x.0 y.0 l) g)))))
        | false ↦ λ _. find-among q x xs g rest ys b.1
      ] refl
    ] refl

pub find-merged : (q : Path) (xs ys : List (Path × Node)) → T (is_sorted path_cmp xs) → T (is_sorted path_cmp ys) → find path_cmp q (merged xs ys) ≡ both_found (find path_cmp q xs) (find path_cmp q ys)
find-merged q [] ys g h = find-only_new q ys
find-merged q (x ∷ xs) ys g h = let b = both_true _ _ g in find-among q x xs b.0 (λ zs. find-merged q xs zs b.1) ys h
