-- The list that is told of two merged listings has the differences of the trees.
use Rattle.std.proofs.Common.{◌≡◌, Bool, true, false, cond, T, List, [], ◌∷◌, ◌++◌, Option, Some, None, IsSome, is_some, refl, sym, ap, subst, ◌∙◌}
use Rattle.std.specs.Option.{option_and_then}
use Rattle.std.specs.FinMap.{find, is_sorted}
use Rattle.std.specs.FinMap.Entries.{below_all}
use Rattle.node_base.specs.Path.{Path, path_cmp, same_path}
use Rattle.node_base.proofs.PathLemmas.{path_of_same}
use Rattle.node_base.specs.declared.node.Node.{Node}
use Rattle.node_base.specs.Tree.{blocked}
use Rattle.path_tree.specs.JoinedLemmas.{both_true, true_both}
use Rattle.tree_reports.specs.Differences.{Told, told, AreDifferences}
use Rattle.tree_reports.specs.Merged.{Both, merged, if_told, telling}
use Rattle.tree_reports.proofs.Merges.{find_below, sorted-merged, find-merged, both_found}

below_told : (p q : Path) (t : Option Told) (es : List (Path × Told)) → T (below_all path_cmp p ((q, t) ∷ [])) → T (below_all path_cmp p es) → T (below_all path_cmp p (if_told q t ++ es))
below_told p q None es l h = h
below_told p q (Some t) es l h = true_both _ _ (both_true _ _ l).0 h

below-telling : (opens : Bool) (above : Path → Bool) (p : Path) (es : List (Path × Both)) → T (below_all path_cmp p es) → T (below_all path_cmp p (telling opens above es))
below-telling opens above p [] h = tt
below-telling opens above p (e ∷ es) h = let b = both_true _ _ h in below_told p e.0 _ _ (true_both _ _ b.0 tt) (below-telling opens above p es b.1)

sorted_told : (q : Path) (t : Option Told) (es : List (Path × Told)) → T (below_all path_cmp q es) → T (is_sorted path_cmp es) → T (is_sorted path_cmp (if_told q t ++ es))
sorted_told q None es l h = h
sorted_told q (Some t) es l h = true_both _ _ l h

sorted-telling : (opens : Bool) (above : Path → Bool) (es : List (Path × Both)) → T (is_sorted path_cmp es) → T (is_sorted path_cmp (telling opens above es))
sorted-telling opens above [] h = tt
sorted-telling opens above (e ∷ es) h = let b = both_true _ _ h in sorted_told e.0 _ _ (below-telling opens above e.0 es b.0) (sorted-telling opens above es b.1)

find_told : (q p : Path) (t : Option Told) (es : List (Path × Told)) → T (below_all path_cmp p es) → find path_cmp q (if_told p t ++ es) ≡ cond (same_path q p) t (find path_cmp q es)
find_told q p (Some t) es h = refl
find_told q p None es h =
    elim (same_path q p) as (λ b. same_path q p ≡ b → find path_cmp q es ≡ cond b None (find path_cmp q es)) [
      | true ↦ λ s. find_below q es (subst (λ r. T (below_all path_cmp r es)) (sym (path_of_same q p s)) h)
      | false ↦ λ _. refl
    ] refl

-- what is told of a pair
told_of_both : Bool → Bool → Both → Option Told
told_of_both opens above b = told opens b.old b.new above

find-telling : (opens : Bool) (above : Path → Bool) (q : Path) (es : List (Path × Both)) → T (is_sorted path_cmp es) → find path_cmp q (telling opens above es) ≡ option_and_then (told_of_both opens (above q)) (find path_cmp q es)
unfolding told_of_both
find-telling opens above q [] h = refl
find-telling opens above q (e ∷ es) h =
    let b = both_true _ _ h in
    find_told q e.0 (told opens e.1.old e.1.new (above e.0)) (telling opens above es) (below-telling opens above e.0 es b.0)
    ∙ elim (same_path q e.0) as (λ t. same_path q e.0 ≡ t → cond t (told opens e.1.old e.1.new (above e.0)) (find path_cmp q (telling opens above es)) ≡ option_and_then (told_of_both opens (above q)) (cond t (Some e.1) (find path_cmp q es))) [
      | true ↦ λ t. ap (λ p. told opens e.1.old e.1.new (above p)) (sym (path_of_same q e.0 t))
      | false ↦ λ _. find-telling opens above q es b.1
    ] refl

told_of_found : (opens above : Bool) (x y : Option Node) → option_and_then (told_of_both opens above) (both_found x y) ≡ told opens x y above
unfolding told_of_both
told_of_found opens above None None = refl
told_of_found opens above None (Some y) = refl
told_of_found opens above (Some x) y = refl

-- what is above a path counts only where something was at it
told_above : (opens : Bool) (x y : Option Node) (a b : Bool) → (IsSome x → a ≡ b) → told opens x y a ≡ told opens x y b
told_above opens None None a b h = refl
told_above opens None (Some y) a b h = refl
told_above opens (Some x) y a b h = ap (told opens (Some x) y) (h refl)

pub are_differences : (opens : Bool) (f g : Path → Option Node) (above : Path → Bool) (xs ys : List (Path × Node)) → T (is_sorted path_cmp xs) → T (is_sorted path_cmp ys) → ((q : Path) → find path_cmp q xs ≡ f q) → ((q : Path) → find path_cmp q ys ≡ g q) → ((q : Path) → IsSome (f q) → above q ≡ is_some (blocked g q)) → AreDifferences opens f g (telling opens above (merged xs ys))
are_differences opens f g above xs ys sx sy fx fy agrees =
    let sorted = sorted-merged xs ys sx sy in
    record {
      in_order = sorted-telling opens above (merged xs ys) sorted;
      each = λ q.
          find-telling opens above q (merged xs ys) sorted
          ∙ ap (option_and_then (told_of_both opens (above q))) (find-merged q xs ys sx sy)
          ∙ told_of_found opens (above q) (find path_cmp q xs) (find path_cmp q ys)
          ∙ (λ i. told opens (fx q i) (fy q i) (above q))
          ∙ told_above opens (f q) (g q) (above q) (is_some (blocked g q)) (agrees q);
    }
