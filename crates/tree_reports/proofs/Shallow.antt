-- What is looked at of a listing.
use Rattle.std.proofs.Common.{◌≡◌, Bool, true, false, cond, T, List, [], ◌∷◌, ◌++◌, Option, Some, None, IsSome, IsNone, IsSomeAnd, is_some, refl, sym, ap, subst, ◌∙◌, true≢false, append-nil, Result, Ok, Err, Vec, IfOk}
use Rattle.std.specs.List.{filter, flat_map}
use Rattle.std.specs.Option.{option_and_then, option_map_or}
use Rattle.std.specs.Ordering.{is_lt}
use Rattle.std.specs.FinMap.{find, is_sorted, get, entries, entries_sorted, get-entries}
use Rattle.std.specs.FinMap.Entries.{below_all}
use Rattle.node_base.specs.Path.{Name, Path, path_cmp, same_path}
use Rattle.node_base.proofs.PathLemmas.{path_of_same}
use Rattle.node_base.specs.declared.node.Node.{Node}
use Rattle.node_base.specs.declared.fault.TreeFault.TheVariants.{NoSuchPath, NotDir}
use Rattle.node_base.specs.Tree.{PathMap, HasFronts, blocked}
use Rattle.path_tree.specs.JoinedLemmas.{both_true, true_both}
use Rattle.path_tree.specs.Listed.{shown}
use Rattle.path_tree.specs.declared.listing.Entry.{Entry}
use Rattle.path_tree.specs.Children.{children_of, named_in, name_in}
use Rattle.tree_reports.specs.declared.depth.Depth.{Depth}
use Rattle.tree_reports.specs.declared.depth.Depth.TheVariants.{Empty, Files, Immediates, Infinity}
use Rattle.tree_reports.specs.Depths.{takes_child, goes_below, is_within, within, is_listed, root_of, picked}
use Rattle.tree_reports.proofs.Merges.{find_below, below_less}

-- an entry that isn't the root's
one_entry : (d : Depth) (p : Path) (x : Node) (cs : List (Name × Node)) (fs : List (Path × Node)) → goes_below d ≡ false → T (is_lt (path_cmp [] p)) → fs ≡ flat_map (picked d) cs → cond (is_within d p x) ((p, x) ∷ fs) fs ≡ flat_map (picked d) (option_map_or (λ n. (n, x) ∷ []) (name_in [] p) [] ++ cs)
one_entry d [] x cs fs g l h = absurd l
one_entry d (n ∷ []) x cs fs g l h = elim (takes_child d x) as (λ t. cond t ((n ∷ [], x) ∷ fs) fs ≡ cond t ((n ∷ [], x) ∷ []) [] ++ flat_map (picked d) cs) [ true ↦ ap (λ z. (n ∷ [], x) ∷ z) h | false ↦ h ]
one_entry d (n ∷ m ∷ p) x cs fs g l h = ap (λ b. cond b ((n ∷ m ∷ p, x) ∷ fs) fs) g ∙ h

below_root : (d : Depth) (es : List (Path × Node)) → goes_below d ≡ false → T (below_all path_cmp [] es) → filter (is_listed d) es ≡ flat_map (picked d) (flat_map (named_in []) es)
below_root d [] g h = refl
below_root d (e ∷ es) g h = let b = both_true _ _ h in one_entry d e.0 e.1 (flat_map (named_in []) es) (filter (is_listed d) es) g b.0 (below_root d es g b.1)

-- the root's entry comes first
first_entry : (d : Depth) (p : Path) (x : Node) (es : List (Path × Node)) → goes_below d ≡ false → T (below_all path_cmp p es) → filter (is_listed d) ((p, x) ∷ es) ≡ option_map_or (λ x. ([], x) ∷ []) (find path_cmp [] ((p, x) ∷ es)) [] ++ flat_map (picked d) (flat_map (named_in []) ((p, x) ∷ es))
first_entry d [] x es g h = ap (λ z. ([], x) ∷ z) (below_root d es g h)
first_entry d (n ∷ p) x es g h =
    let after : T (below_all path_cmp [] ((n ∷ p, x) ∷ es)) = below_less [] (n ∷ p) es refl h in
    below_root d ((n ∷ p, x) ∷ es) g after
    ∙ ap (λ o. option_map_or (λ x. ([], x) ∷ []) o [] ++ flat_map (picked d) (flat_map (named_in []) ((n ∷ p, x) ∷ es))) (sym (find_below [] ((n ∷ p, x) ∷ es) after))

root_entries : (d : Depth) (es : List (Path × Node)) → goes_below d ≡ false → T (is_sorted path_cmp es) → filter (is_listed d) es ≡ option_map_or (λ x. ([], x) ∷ []) (find path_cmp [] es) [] ++ flat_map (picked d) (flat_map (named_in []) es)
root_entries d [] g h = refl
root_entries d (e ∷ es) g h = first_entry d e.0 e.1 es g (both_true _ _ h).0

-- what is looked at where nothing further below is
pub shallow : (d : Depth) (m : PathMap) → goes_below d ≡ false → root_of m ++ flat_map (picked d) (children_of [] m) ≡ filter (is_listed d) (entries m)
shallow d m g = ap (λ o. option_map_or (λ x. ([], x) ∷ []) o [] ++ flat_map (picked d) (children_of [] m)) (get-entries m []) ∙ sym (root_entries d (entries m) g (entries_sorted m))

no_children : (cs : List (Name × Node)) → flat_map (picked Empty) cs ≡ []
no_children [] = refl
no_children (c ∷ cs) = no_children cs

pub root_alone : (m : PathMap) → root_of m ≡ filter (is_listed Empty) (entries m)
root_alone m = sym (append-nil (root_of m)) ∙ ap (λ z. root_of m ++ z) (sym (no_children (children_of [] m))) ∙ shallow Empty m refl

all_within : (p : Path) (x : Node) → is_within Infinity p x ≡ true
all_within [] x = refl
all_within (n ∷ []) x = refl
all_within (n ∷ m ∷ p) x = refl

pub all_listed : (es : List (Path × Node)) → es ≡ filter (is_listed Infinity) es
all_listed [] = refl
all_listed (e ∷ es) = ap (λ z. e ∷ z) (all_listed es) ∙ ap (λ b. cond b (e ∷ filter (is_listed Infinity) es) (filter (is_listed Infinity) es)) (sym (all_within e.0 e.1))

below_filter : (P : Path × Node → Bool) (p : Path) (es : List (Path × Node)) → T (below_all path_cmp p es) → T (below_all path_cmp p (filter P es))
below_filter P p [] h = tt
below_filter P p (e ∷ es) h =
    let b = both_true _ _ h in
    elim (P e) as (λ t. T (below_all path_cmp p (cond t (e ∷ filter P es) (filter P es)))) [ true ↦ true_both _ _ b.0 (below_filter P p es b.1) | false ↦ below_filter P p es b.1 ]

sorted_filter : (P : Path × Node → Bool) (es : List (Path × Node)) → T (is_sorted path_cmp es) → T (is_sorted path_cmp (filter P es))
sorted_filter P [] h = tt
sorted_filter P (e ∷ es) h =
    let b = both_true _ _ h in
    elim (P e) as (λ t. T (is_sorted path_cmp (cond t (e ∷ filter P es) (filter P es)))) [ true ↦ true_both _ _ (below_filter P e.0 es b.0) (sorted_filter P es b.1) | false ↦ sorted_filter P es b.1 ]

find-filter : (P : Path × Node → Bool) (q : Path) (es : List (Path × Node)) → T (is_sorted path_cmp es) → find path_cmp q (filter P es) ≡ option_and_then (λ x. cond (P (q, x)) (Some x) None) (find path_cmp q es)
find-filter P q [] h = refl
find-filter P q (e ∷ es) h =
    let b = both_true _ _ h in
    elim (P e) as (λ t. P e ≡ t → find path_cmp q (cond t (e ∷ filter P es) (filter P es)) ≡ option_and_then (λ x. cond (P (q, x)) (Some x) None) (find path_cmp q (e ∷ es))) [
      | true ↦ λ passes. elim (same_path q e.0) as (λ s. same_path q e.0 ≡ s → cond s (Some e.1) (find path_cmp q (filter P es)) ≡ option_and_then (λ x. cond (P (q, x)) (Some x) None) (cond s (Some e.1) (find path_cmp q es))) [
        | true ↦ λ s. ap (λ t. cond t (Some e.1) None) (sym (ap (λ p. P (p, e.1)) (path_of_same q e.0 s) ∙ passes))
        | false ↦ λ _. find-filter P q es b.1
      ] refl
      | false ↦ λ fails. elim (same_path q e.0) as (λ s. same_path q e.0 ≡ s → find path_cmp q (filter P es) ≡ option_and_then (λ x. cond (P (q, x)) (Some x) None) (cond s (Some e.1) (find path_cmp q es))) [
        | true ↦ λ s. find_below q (filter P es) (subst (λ p. T (below_all path_cmp p (filter P es))) (sym (path_of_same q e.0 s)) (below_filter P e.0 es b.0))
            ∙ ap (λ t. cond t (Some e.1) None) (sym (ap (λ p. P (p, e.1)) (path_of_same q e.0 s) ∙ fails))
        | false ↦ λ _. find-filter P q es b.1
      ] refl
    ] refl

pub sorted_within : (d : Depth) (m : PathMap) → T (is_sorted path_cmp (filter (is_listed d) (entries m)))
sorted_within d m = sorted_filter (is_listed d) (entries m) (entries_sorted m)

pub find_within : (d : Depth) (m : PathMap) (q : Path) → find path_cmp q (filter (is_listed d) (entries m)) ≡ within d (get m) q
find_within d m q = find-filter (is_listed d) q (entries m) (entries_sorted m) ∙ ap (option_and_then (λ x. cond (is_within d q x) (Some x) None)) (sym (get-entries m q))

pub some_of_within : (d : Depth) (q : Path) (o : Option Node) → IsSome (option_and_then (λ x. cond (is_within d q x) (Some x) None) o) → IsSome o
some_of_within d q None s = s
some_of_within d q (Some x) s = refl

dir_within : (d : Depth) (q : Path) (o : Option Node) → ((x : Node) → is_within d q x ≡ true) → IsSomeAnd o (λ x. IsNone x.text) → IsSomeAnd (option_and_then (λ x. cond (is_within d q x) (Some x) None) o) (λ x. IsNone x.text)
dir_within d q None w h = absurd h
dir_within d q (Some x) w h = subst (λ t. IsSomeAnd (cond t (Some x) None) (λ x. IsNone x.text)) (sym (w x)) h

never : (d : Depth) (q : Path) (o : Option Node) → ((x : Node) → is_within d q x ≡ false) → IsSome (option_and_then (λ x. cond (is_within d q x) (Some x) None) o) → ⊥
never d q None w s = true≢false (sym s)
never d q (Some x) w s = true≢false (sym (subst (λ t. IsSome (cond t (Some x) None)) (w x) s))

further : (d : Depth) (m : Name) (p : Path) (n : Name) (x : Node) → is_within d (m ∷ p ++ n ∷ []) x ≡ goes_below d
further d m [] n x = refl
further d m (k ∷ p) n x = refl

-- what is looked at keeps its fronts
pub fronts_within : (d : Depth) (f : Path → Option Node) → HasFronts f → HasFronts (within d f)
fronts_within d f h [] n some = dir_within d [] (f []) (λ x. refl) (h [] n (some_of_within d (n ∷ []) (f (n ∷ [])) some))
fronts_within Empty f h (m ∷ p) n some = absurd (never Empty (m ∷ p ++ n ∷ []) (f (m ∷ p ++ n ∷ [])) (further Empty m p n) some)
fronts_within Files f h (m ∷ p) n some = absurd (never Files (m ∷ p ++ n ∷ []) (f (m ∷ p ++ n ∷ [])) (further Files m p n) some)
fronts_within Immediates f h (m ∷ p) n some = absurd (never Immediates (m ∷ p ++ n ∷ []) (f (m ∷ p ++ n ∷ [])) (further Immediates m p n) some)
fronts_within Infinity f h (m ∷ p) n some = dir_within Infinity (m ∷ p) (f (m ∷ p)) (all_within (m ∷ p)) (h (m ∷ p) n (some_of_within Infinity (m ∷ p ++ n ∷ []) (f (m ∷ p ++ n ∷ [])) some))

pub whole : (g : Path → Option Node) (q : Path) → g q ≡ within Infinity g q
whole g q = elim (g q) as (λ o. o ≡ option_and_then (λ x. cond (is_within Infinity q x) (Some x) None) o) [ None ↦ refl | Some x ↦ ap (λ t. cond t (Some x) None) (sym (all_within q x)) ]

above_shallow : (d : Depth) (f g : Path → Option Node) (q : Path) → goes_below d ≡ false → IsSome (within d f q) → is_some (blocked g q) ≡ is_some (blocked (within d g) q)
above_shallow d f g [] e s = refl
above_shallow d f g (n ∷ []) e s =
    elim (g []) as (λ o. is_some (option_map_or (λ y. cond (is_some y.text) (Some NotDir) None) o (Some NoSuchPath)) ≡ is_some (option_map_or (λ y. cond (is_some y.text) (Some NotDir) None) (option_and_then (λ x. cond true (Some x) None) o) (Some NoSuchPath))) [ None ↦ refl | Some y ↦ refl ]
above_shallow d f g (n ∷ m ∷ p) e s = absurd (never d (n ∷ m ∷ p) (f (n ∷ m ∷ p)) (λ x. e) s)

-- what is above a path that is looked at is looked at
pub above_within : (d : Depth) (f g : Path → Option Node) (q : Path) → IsSome (within d f q) → is_some (blocked g q) ≡ is_some (blocked (within d g) q)
above_within Infinity f g q s =
    let same : ◌≡◌ {A = Path → Option Node} g (within Infinity g) = λ i p. whole g p i in
    ap (λ h. is_some (blocked h q)) same
above_within Empty f g q s = above_shallow Empty f g q refl s
above_within Files f g q s = above_shallow Files f g q refl s
above_within Immediates f g q s = above_shallow Immediates f g q refl s

-- a listing that is another one
pub if_ok_same : {A E : Type 0} (r : Result (Vec Entry A) E) (xs ys : List (Path × Node)) → xs ≡ ys → IfOk r (λ es. shown es.items ≡ xs) → IfOk r (λ es. shown es.items ≡ ys)
if_ok_same (Ok es) xs ys e h = h ∙ e
if_ok_same (Err x) xs ys e h = h
