-- A folder's children, and what it is to put them into a root.
use Rattle.std.proofs.Common.{◌≡◌, ℕ, ◌+◌, ◌≤◌, Bool, true, false, cond, not, ◌&&◌, ◌||◌, T, List, [], ◌∷◌, ◌++◌, length, Option, Some, None, IsNone, IsSomeAnd, is_some, refl, sym, ap, subst, ◌∙◌, true≢false, arith, append_assoc, length-append, leb-true, le-leb}
use Rattle.std.specs.List.{flat_map, list_any}
use Rattle.std.specs.Option.{option_map, option_map_or}
use Rattle.std.specs.Ordering.{is_lt, ordering_then}
use Rattle.std.specs.declared.cmp.Ordering.{Ordering}
use Rattle.std.specs.declared.cmp.Ordering.TheVariants.{Less, Equal, Greater}
use Rattle.std.specs.FinMap.{find, is_sorted, get, keys, entries, entries_sorted, get-entries, contains_key-keys}
use Rattle.std.specs.FinMap.Entries.{below_all}
use Rattle.std.proofs.lemmas.Cmp.{tied_itself}
use Rattle.node_base.specs.Limits.{fits, weight}
use Rattle.node_base.specs.Path.{Name, Path, name_cmp, path_cmp, names_total, same_name, same_path, rest_after, is_front}
use Rattle.node_base.proofs.PathLemmas.{same_path-cons, same_path_itself, same_name_itself, name_of_same, path_of_same, append_of_rest, weight-append}
use Rattle.node_base.specs.declared.node.Node.{Node}
use Rattle.node_base.specs.Tree.{PathMap, IsTree, with_number, blocked}
use Rattle.node_base.specs.declared.fault.TreeFault.TheVariants.{NoSuchPath, NotDir}
use Rattle.path_tree.specs.Calls.{copied}
use Rattle.path_tree.specs.Children.{children_of, named_in, name_in}
use Rattle.path_tree.specs.Copies.{copy_too_long}
use Rattle.path_tree.specs.JoinedLemmas.{both_true, true_both, find_absent}
use Rattle.path_tree.proofs.Fronts.{nothing_below}
use Rattle.tree_reports.specs.Applied.{content}
use Rattle.tree_reports.specs.Folders.{IsGrafted, in_folder}

-- a path is a folder's and a name just where that name is its name in the folder
one_name : (n k : Name) → same_path (n ∷ []) (k ∷ []) ≡ same_name n k
one_name n k = same_path-cons n [] k [] ∙ elim (same_name n k) as (λ b. (b && true) ≡ b) [ true ↦ refl | false ↦ refl ]

more_names : (n k : Name) (j : Name) (q : Path) → same_path (n ∷ []) (k ∷ j ∷ q) ≡ false
more_names n k j q = same_path-cons n [] k (j ∷ q) ∙ elim (same_name n k) as (λ b. (b && false) ≡ false) [ true ↦ refl | false ↦ refl ]

same_in : (p : Path) (n : Name) (q : Path) → same_path (p ++ n ∷ []) q ≡ option_map_or (same_name n) (name_in p q) false
same_in [] n [] = refl
same_in [] n (k ∷ []) = one_name n k
same_in [] n (k ∷ j ∷ q) = more_names n k j q
same_in (d ∷ p) n [] = refl
same_in (d ∷ p) n (m ∷ q) =
    same_path-cons d (p ++ n ∷ []) m q
    ∙ elim (same_name d m) as (λ b. (b && same_path (p ++ n ∷ []) q) ≡ option_map_or (same_name n) (cond b (name_in p q) None) false) [ true ↦ same_in p n q | false ↦ refl ]

find_named : (p : Path) (n : Name) (es : List (Path × Node)) → find name_cmp n (flat_map (named_in p) es) ≡ find path_cmp (p ++ n ∷ []) es
find_named p n [] = refl
find_named p n (e ∷ es) =
    elim (name_in p e.0) as (λ o. find name_cmp n (option_map_or (λ k. (k, e.1) ∷ []) o [] ++ flat_map (named_in p) es) ≡ cond (option_map_or (same_name n) o false) (Some e.1) (find path_cmp (p ++ n ∷ []) es)) [
      | None ↦ find_named p n es
      | Some k ↦ ap (cond (same_name n k) (Some e.1)) (find_named p n es)
    ]
    ∙ ap (λ b. cond b (Some e.1) (find path_cmp (p ++ n ∷ []) es)) (sym (same_in p n e.0))

pub find_child : (p : Path) (m : PathMap) (n : Name) → find name_cmp n (children_of p m) ≡ get m (p ++ n ∷ [])
find_child p m n = find_named p n (entries m) ∙ sym (get-entries m (p ++ n ∷ []))

-- the names in a folder are in the order of the paths
path_named : (p q : Path) (k : Name) → name_in p q ≡ Some k → q ≡ p ++ k ∷ []
path_named p q k e = sym (path_of_same (p ++ k ∷ []) q (same_in p k q ∙ ap (λ o. option_map_or (same_name k) o false) e ∙ same_name_itself k))

order_named : (p : Path) (k l : Name) → path_cmp (p ++ k ∷ []) (p ++ l ∷ []) ≡ ordering_then (name_cmp k l) Equal
order_named [] k l = refl
order_named (d ∷ p) k l = ap (λ r. ordering_then r (path_cmp (p ++ k ∷ []) (p ++ l ∷ []))) (tied_itself names_total d) ∙ order_named p k l

less_then : (r : Ordering) → T (is_lt (ordering_then r Equal)) → T (is_lt r)
less_then Less h = h
less_then Equal h = absurd h
less_then Greater h = absurd h

below_named : (p : Path) (k : Name) (es : List (Path × Node)) → T (below_all path_cmp (p ++ k ∷ []) es) → T (below_all name_cmp k (flat_map (named_in p) es))
below_named p k [] h = tt
below_named p k (e ∷ es) h =
    let b = both_true _ _ h in
    let rest = below_named p k es b.1 in
    elim (name_in p e.0) as (λ o. name_in p e.0 ≡ o → T (below_all name_cmp k (option_map_or (λ l. (l, e.1) ∷ []) o [] ++ flat_map (named_in p) es))) [
      | None ↦ λ _. rest
      | Some l ↦ λ is. true_both _ _ (less_then (name_cmp k l) (subst (λ r. T (is_lt r)) (order_named p k l) (subst (λ q. T (is_lt (path_cmp (p ++ k ∷ []) q))) (path_named p e.0 l is) b.0))) rest
    ] refl

sorted_named : (p : Path) (es : List (Path × Node)) → T (is_sorted path_cmp es) → T (is_sorted name_cmp (flat_map (named_in p) es))
sorted_named p [] h = tt
sorted_named p (e ∷ es) h =
    let b = both_true _ _ h in
    let rest = sorted_named p es b.1 in
    elim (name_in p e.0) as (λ o. name_in p e.0 ≡ o → T (is_sorted name_cmp (option_map_or (λ l. (l, e.1) ∷ []) o [] ++ flat_map (named_in p) es))) [
      | None ↦ λ _. rest
      | Some l ↦ λ is. true_both _ _ (below_named p l es (subst (λ q. T (below_all path_cmp q es)) (path_named p e.0 l is) b.0)) rest
    ] refl

-- nothing is in a folder below a name that no child has
pub absent_below : (m : PathMap) (folder : Path) → IsTree m → (n : Name) (q : Path) → get m (folder ++ n ∷ []) ≡ None → in_folder m folder (n ∷ q) ≡ None
absent_below m folder t n q e = ap (get m) (sym (append_assoc folder (n ∷ []) q)) ∙ nothing_below (get m) t.fronts (folder ++ n ∷ []) e q

-- no child stands where none of the children is
pub none_grafted : (m : PathMap) (folder : Path) (given : Path → Option Node) (top : PathMap) → ((n : Name) (q : Path) → get m (folder ++ n ∷ []) ≡ None → given (n ∷ q) ≡ None) → ((n : Name) (q : Path) → get top (n ∷ q) ≡ None) → IsGrafted m folder given top top (children_of folder m)
none_grafted m folder given top absent blank = record {
  root = refl;
  done = λ n q. blank n q ∙ elim (find name_cmp n (children_of folder m)) as (λ o. find name_cmp n (children_of folder m) ≡ o → None ≡ cond (is_some o) None (given (n ∷ q))) [
    | None ↦ λ e. sym (absent n q (sym (find_child folder m n) ∙ e))
    | Some x ↦ λ _. refl
  ] refl;
  in_order = sorted_named folder (entries m) (entries_sorted m);
  known = λ n x e. sym (find_child folder m n) ∙ e;
}

same_back : (n k : Name) → same_name n k ≡ true → same_name k n ≡ true
same_back n k e = subst (λ z. same_name z n ≡ true) (name_of_same n k e) (same_name_itself n)

numbered_same : (x : Node) → ◌≡◌ {A = Option Node} (Some (with_number x.changed x)) (Some x)
numbered_same x = refl

pub no_front : (n x : Name) (q : Path) → same_name x n ≡ false → is_front (n ∷ q) (x ∷ []) ≡ false
no_front n x q e =
    elim (same_name n x) as (λ b. same_name n x ≡ b → is_some (cond b (rest_after q []) None) ≡ false) [
      | true ↦ λ s. absurd (true≢false (sym (same_back n x s) ∙ e))
      | false ↦ λ _. refl
    ] refl

pub stays_there : (b : Bool) (k : ℕ) (o : Option Node) → b ≡ false → option_map (λ y. cond b (with_number k y) y) o ≡ o
stays_there b k None e = refl
stays_there b k (Some y) e = ap (λ t. Some (cond t (with_number k y) y)) e

pub content_there : (b : Bool) (k : ℕ) (o : Option Node) → option_map content (option_map (λ y. cond b (with_number k y) y) o) ≡ option_map content o
content_there b k None = refl
content_there true k (Some y) = refl
content_there false k (Some y) = refl

-- below a child that is put stands what the folder has there
at_child : (m : PathMap) (folder : Path) (x : Name) (node : Node) (q : Path) → get m (folder ++ x ∷ []) ≡ Some node → option_map (λ y. cond (is_front (x ∷ q) (x ∷ [])) (with_number node.changed y) y) (get m ((folder ++ x ∷ []) ++ q)) ≡ get m (folder ++ x ∷ q)
at_child m folder x node [] there =
    ap (λ o. option_map (λ y. cond (is_front (x ∷ []) (x ∷ [])) (with_number node.changed y) y) o) (ap (get m) (append_assoc folder (x ∷ []) []) ∙ there)
    ∙ ap (λ b. Some (cond b (with_number node.changed node) node)) (ap (λ b. is_some {T = Path} (cond b (Some []) None)) (same_name_itself x))
    ∙ sym there
at_child m folder x node (k ∷ q) there =
    stays_there (is_front (x ∷ k ∷ q) (x ∷ [])) node.changed (get m ((folder ++ x ∷ []) ++ k ∷ q)) (ap (λ b. is_some {T = Path} (cond b (rest_after (k ∷ q) []) None)) (same_name_itself x))
    ∙ ap (get m) (append_assoc folder (x ∷ []) (k ∷ q))

-- below the name of a child stands what is given there, and the rest below the root is as before
abbrev pub Puts : (Path → Option Node) → PathMap → PathMap → Name → Type 0
Puts given now new x = (n : Name) (q : Path) → get new (n ∷ q) ≡ cond (same_name x n) (given (n ∷ q)) (get now (n ∷ q))

puts_copied : (m : PathMap) (folder : Path) (now new : PathMap) (x : Name) (node : Node) → get m (folder ++ x ∷ []) ≡ Some node → ((q : Path) → get new q ≡ copied (get now) (x ∷ []) (λ r. get m ((folder ++ x ∷ []) ++ r)) node.changed q) → Puts (in_folder m folder) now new x
puts_copied m folder now new x node there is n q =
    is (n ∷ q)
    ∙ elim (same_name x n) as (λ b. same_name x n ≡ b → option_map (λ y. cond (is_front (n ∷ q) (x ∷ [])) (with_number node.changed y) y) (option_map_or (λ r. get m ((folder ++ x ∷ []) ++ r)) (cond b (Some q) None) (get now (n ∷ q))) ≡ cond b (get m (folder ++ n ∷ q)) (get now (n ∷ q))) [
      | true ↦ λ s.
          subst (λ k. option_map (λ y. cond (is_front (k ∷ q) (x ∷ [])) (with_number node.changed y) y) (get m ((folder ++ x ∷ []) ++ q)) ≡ get m (folder ++ k ∷ q)) (name_of_same x n s) (at_child m folder x node q there)
      | false ↦ λ s. stays_there (is_front (n ∷ q) (x ∷ [])) node.changed (get now (n ∷ q)) (no_front n x q s)
    ] refl

grafted_below : (given : Path → Option Node) (now new : PathMap) (x : Name) (node : Node) (rest : List (Name × Node)) → T (below_all name_cmp x rest) → ((n : Name) (q : Path) → get now (n ∷ q) ≡ cond (is_some (find name_cmp n ((x, node) ∷ rest))) None (given (n ∷ q))) → Puts given now new x → (n : Name) (q : Path) → get new (n ∷ q) ≡ cond (is_some (find name_cmp n rest)) None (given (n ∷ q))
grafted_below given now new x node rest first done puts n q =
    puts n q
    ∙ elim (same_name x n) as (λ b. same_name x n ≡ b → cond b (given (n ∷ q)) (get now (n ∷ q)) ≡ cond (is_some (find name_cmp n rest)) None (given (n ∷ q))) [
      | true ↦ λ s. ap (λ o. cond (is_some o) None (given (n ∷ q))) (sym (ap (λ k. find name_cmp k rest) (sym (name_of_same x n s)) ∙ find_absent x rest first))
      | false ↦ λ s.
          done n q
          ∙ elim (same_name n x) as (λ b. same_name n x ≡ b → cond (is_some (cond b (Some node) (find name_cmp n rest))) None (given (n ∷ q)) ≡ cond (is_some (find name_cmp n rest)) None (given (n ∷ q))) [
            | true ↦ λ t. absurd (true≢false (sym (same_back n x t) ∙ s))
            | false ↦ λ _. refl
          ] refl
    ] refl

pub first_found : (x : Name) (node : Node) (rest : List (Name × Node)) → find name_cmp x ((x, node) ∷ rest) ≡ Some node
first_found x node rest = ap (λ b. cond b (Some node) (find name_cmp x rest)) (same_name_itself x)

-- the first child that is to come is there
pub child_there : (m : PathMap) (folder : Path) (given : Path → Option Node) (old now : PathMap) (all rest : List (Name × Node)) (x : Name) (node : Node) → IsGrafted m folder given old now all → all ≡ (x, node) ∷ rest → get m (folder ++ x ∷ []) ≡ Some node
child_there m folder given old now all rest x node h e = h.known x node (ap (find name_cmp x) e ∙ first_found x node rest)

-- one child more
pub one_grafted : (m : PathMap) (folder : Path) (given : Path → Option Node) (old now new : PathMap) (all rest : List (Name × Node)) (x : Name) (node : Node) → IsGrafted m folder given old now all → all ≡ (x, node) ∷ rest → option_map content (get new []) ≡ option_map content (get now []) → Puts given now new x → IsGrafted m folder given old new rest
one_grafted m folder given old now new all rest x node h e root puts =
    let g : IsGrafted m folder given old now ((x, node) ∷ rest) = subst (IsGrafted m folder given old now) e h in
    let b = both_true _ _ g.in_order in
    record {
      root = root ∙ g.root;
      done = grafted_below given now new x node rest b.0 g.done puts;
      in_order = b.1;
      known = λ n y f. g.known n y (later n y f b.0);
    }
  where
    later : (n : Name) (y : Node) → find name_cmp n rest ≡ Some y → T (below_all name_cmp x rest) → find name_cmp n ((x, node) ∷ rest) ≡ Some y
    later n y f first =
        elim (same_name n x) as (λ b. same_name n x ≡ b → cond b (Some node) (find name_cmp n rest) ≡ Some y) [
          | true ↦ λ s. none_some node y (sym (find_absent x rest first) ∙ ap (λ k. find name_cmp k rest) (sym (name_of_same n x s)) ∙ f)
          | false ↦ λ _. f
        ] refl
      where
        none_some : (node y : Node) → None ≡ Some y → Some node ≡ Some y
        none_some node y e = cc

-- the same of a child that is grafted
pub one_copied : (m : PathMap) (folder : Path) (old now new : PathMap) (all rest : List (Name × Node)) (x : Name) (node : Node) → IsGrafted m folder (in_folder m folder) old now all → all ≡ (x, node) ∷ rest → ((q : Path) → get new q ≡ copied (get now) (x ∷ []) (λ r. get m ((folder ++ x ∷ []) ++ r)) node.changed q) → IsGrafted m folder (in_folder m folder) old new rest
one_copied m folder old now new all rest x node h e is =
    one_grafted m folder (in_folder m folder) old now new all rest x node h e
    (ap (option_map content) (is []) ∙ content_there (is_front [] (x ∷ [])) node.changed (get now []))
    (puts_copied m folder now new x node (child_there m folder (in_folder m folder) old now all rest x node h e) is)

-- what is below a folder fits without the folder
fits_tail : (p q : Path) → fits (p ++ q) ≡ true → fits q ≡ true
fits_tail p q e =
    let b = and_both _ _ e in
    let names = leb-true (0 + length (p ++ q)) 64 b.0 in
    let bytes = leb-true (0 + weight (p ++ q)) 1025 b.1 in
    let few : 0 + length q ≤ 64 = omega (arith, length-append p q, names) in
    let short : 0 + weight q ≤ 1025 = omega (arith, weight-append p q, bytes) in
    both_and _ _ (le-leb (0 + length q) 64 few) (le-leb (0 + weight q) 1025 short)
  where
    and_both : (a b : Bool) → (a && b) ≡ true → (a ≡ true) × (b ≡ true)
    and_both true b e = (refl, e)
    and_both false b e = absurd (true≢false (sym e))

    both_and : (a b : Bool) → a ≡ true → b ≡ true → (a && b) ≡ true
    both_and a b p q = cc

pub no_any : (P : Path → Bool) (ks : List Path) → ((k : Path) → list_any (same_path k) ks ≡ true → P k ≡ false) → list_any P ks ≡ false
no_any P [] h = refl
no_any P (k ∷ ks) h = both_false _ _ (h k (ap (λ b. b || list_any (same_path k) ks) (same_path_itself k))) (no_any P ks (λ j m. h j (later (same_path j k) _ m)))
  where
    both_false : (a b : Bool) → a ≡ false → b ≡ false → (a || b) ≡ false
    both_false a b p q = cc

    later : (a b : Bool) → b ≡ true → (a || b) ≡ true
    later true b e = refl
    later false b e = e

pub child_fits : (m : PathMap) (folder : Path) (x : Name) → IsTree m → copy_too_long m (folder ++ x ∷ []) (x ∷ []) ≡ false
child_fits m folder x t = no_any (λ k. option_map_or (λ r. not (fits (x ∷ [] ++ r))) (rest_after (folder ++ x ∷ []) k) false) (keys m) (λ k member.
    elim (rest_after (folder ++ x ∷ []) k) as (λ o. rest_after (folder ++ x ∷ []) k ≡ o → option_map_or (λ r. not (fits (x ∷ [] ++ r))) o false ≡ false) [
      | None ↦ λ _. refl
      | Some r ↦ λ e. ap not (fits_tail folder (x ∷ r) (ap fits (sym (append_assoc folder (x ∷ []) r) ∙ sym (append_of_rest (folder ++ x ∷ []) k r e)) ∙ t.small k (contains_key-keys m k ∙ member)))
    ] refl)

pub fits_name : (n : Name) → length n ≤ 255 → fits (n ∷ []) ≡ true
fits_name n h = let short : 0 + (length n + 1 + 0) ≤ 1025 = omega (arith, h) in le-leb (0 + (length n + 1 + 0)) 1025 short

-- a root is no obstacle
pub open_root : (m : PathMap) (x : Name) → IsTree m → blocked (get m) (x ∷ []) ≡ None
open_root m x t = elim (get m []) as (λ o. IsSomeAnd o (λ y. IsNone y.text) → option_map_or (λ y. cond (is_some y.text) (Some NotDir) None) o (Some NoSuchPath) ≡ None) [
  | None ↦ λ d. absurd d
  | Some y ↦ λ d. ap (λ b. cond b (Some NotDir) None) (no_text y.text d)
] t.root
  where
    no_text : (o : Option Name) → IsNone o → is_some o ≡ false
    no_text None h = refl
    no_text (Some z) h = cc
