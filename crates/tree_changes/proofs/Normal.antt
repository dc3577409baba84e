-- The changes that differences are, are normal, and their paths are within the limits.
use Rattle.std.proofs.Common.{◌≡◌, Bool, true, false, true≢false, cond, ◌&&◌, ◌||◌, T, List, [], ◌∷◌, ◌++◌, Option, Some, None, IsSome, is_some, is_none, refl, sym, ap, subst, ◌∙◌, append-nil}
use Rattle.std.specs.Option.{option_map_or}
use Rattle.std.specs.List.{AllByRecursion}
use Rattle.std.specs.FinMap as finite
use Rattle.std.specs.FinMap.{find, is_sorted}
use Rattle.std.specs.FinMap.Entries.{below_all}
use Rattle.std.specs.declared.cmp.Ordering.TheVariants.{Less}
use Rattle.node_base.specs.Path.{Name, Path, path_cmp, same_path, is_front, rest_after}
use Rattle.node_base.proofs.PathLemmas.{path_of_same, same_path_itself, append_of_rest}
use Rattle.node_base.specs.Path.{paths_total}
use Rattle.std.proofs.lemmas.Cmp.{tied_itself}
use Rattle.node_base.specs.Tree.{PathMap, HasFronts, IsTree, blocked}
use Rattle.node_base.specs.declared.fault.TreeFault.TheVariants.{NoSuchPath, NotDir}
use Rattle.node_base.specs.declared.node.Node.{Node}
use Rattle.node_base.specs.declared.node.NodeKind.TheVariants.{File, Dir}
use Rattle.path_tree.specs.JoinedLemmas.{both_true, less_than}
use Rattle.path_tree.proofs.Fronts.{nothing_below}
use Rattle.dump_load.specs.Changes.{is_delete, is_described, IsWhole, Precedes, IsNormal}
use Rattle.tree_reports.specs.Differences.{Told, Removed, Added, Replaced, Changed, parts_of, are_other_kinds, told, told_at, AreDifferences}
use Rattle.tree_reports.proofs.Merges.{find_below}
use Rattle.tree_changes.specs.Changes.{told_change, change_of, changes_of, Fits}

-- ---- what is found of each of them

all_map : {X : Type 0} (P Q : X → Type 0) → ((x : X) → P x → Q x) → (xs : List X) → AllByRecursion P xs → AllByRecursion Q xs
all_map P Q f [] h = tt
all_map P Q f (x ∷ xs) h = (f x h.0, all_map P Q f xs h.1)

abbrev IsFound : List (Path × Told) → Path × Told → Type 0
IsFound es e = find path_cmp e.0 es ≡ Some e.1

found_later : (e : Path × Told) (es : List (Path × Told)) → T (below_all path_cmp e.0 es) → (x : Path × Told) → IsFound es x → IsFound (e ∷ es) x
found_later e es below x h = by (same_path x.0 e.0) refl
  where
    by : (b : Bool) → same_path x.0 e.0 ≡ b → cond (same_path x.0 e.0) (Some e.1) (find path_cmp x.0 es) ≡ Some x.1
    by true is = cc (sym h ∙ ap (λ p. find path_cmp p es) (path_of_same x.0 e.0 is) ∙ find_below e.0 es below)
    by false is = ap (λ b. cond b (Some e.1) (find path_cmp x.0 es)) is ∙ h

all_found : (es : List (Path × Told)) → T (is_sorted path_cmp es) → AllByRecursion (IsFound es) es
all_found [] s = tt
all_found (e ∷ es) s =
    let b = both_true _ _ s in
    (ap (λ b. cond b (Some e.1) (find path_cmp e.0 es)) (same_path_itself e.0), all_map (IsFound es) (IsFound (e ∷ es)) (found_later e es b.0) es (all_found es b.1))

-- ---- the limits

some_there : {A : Type 0} (o : Option A) (x : A) → o ≡ Some x → IsSome o
some_there o x e = subst IsSome (sym e) refl

-- something stands or stood where something is told
told_there : (opens : Bool) (o u : Option Node) (b : Bool) (t : Told) (P : Type 0) → told opens o u b ≡ Some t → (IsSome o → P) → (IsSome u → P) → P
told_there opens None None b t P e f g = cc
told_there opens None (Some y) b t P e f g = g refl
told_there opens (Some x) u b t P e f g = f refl

pub paths_fit : (opens : Bool) (old new : PathMap) → IsTree old → IsTree new → (es : List (Path × Told)) → AreDifferences opens (finite.get old) (finite.get new) es → AllByRecursion Fits es
paths_fit opens old new s t es h = all_map (IsFound es) Fits (λ e is. told_there opens (finite.get old e.0) (finite.get new e.0) (is_some (blocked (finite.get new) e.0)) e.1 (Fits e) (sym (h.each e.0) ∙ is) (s.small e.0) (t.small e.0)) es (all_found es h.in_order)

-- ---- whole changes

described : (t : Option Name) → is_described (Some (cond (is_some t) File Dir)) true (is_some t) ≡ true
described None = refl
described (Some t) = refl

whole : (e : Path × Told) → IsWhole (change_of e)
whole e = by e.0 e.1
  where
    by : (p : Path) (t : Told) → IsWhole (told_change p t)
    by p Removed = (λ h. absurd (true≢false (sym h)), refl)
    by p (Added y) = (λ h. described y.text, refl)
    by p (Replaced y) = (λ h. described y.text, refl)
    by p (Changed y parts) = (λ h. absurd (true≢false (sym h)), refl)

-- ---- nothing is told below what goes

blocked_below : (g : Path → Option Node) (p : Path) (n : Name) (r : Path) → g p ≡ None → is_some (blocked g (p ++ n ∷ r)) ≡ true
blocked_below g [] n r h = ap (λ o. is_some (option_map_or (λ x. cond (is_some x.text) (Some NotDir) (blocked (λ q. g (n ∷ q)) r)) o (Some NoSuchPath))) h
blocked_below g (m ∷ p) n r h = by (g []) (blocked_below (λ q. g (m ∷ q)) p n r h)
  where
    by : (o : Option Node) → is_some (blocked (λ q. g (m ∷ q)) (p ++ n ∷ r)) ≡ true → is_some (option_map_or (λ x. cond (is_some x.text) (Some NotDir) (blocked (λ q. g (m ∷ q)) (p ++ n ∷ r))) o (Some NoSuchPath)) ≡ true
    by None below = refl
    by (Some x) below = elim (is_some x.text) as (λ b. is_some (cond b (Some NotDir) (blocked (λ q. g (m ∷ q)) (p ++ n ∷ r))) ≡ true) [ true ↦ refl | false ↦ below ]

-- what goes isn't there any more
removed_is_gone : (opens : Bool) (o u : Option Node) (b : Bool) → told opens o u b ≡ Some Removed → u ≡ None
removed_is_gone opens None None b e = refl
removed_is_gone opens None (Some y) b e = cc
removed_is_gone opens (Some x) None b e = refl
removed_is_gone opens (Some x) (Some y) b e = by (are_other_kinds (is_some x.text) (is_some y.text)) ((parts_of x y).props || (parts_of x y).text || (opens && is_none y.text)) e
  where
    by : (k l : Bool) → cond k (Some (Replaced y)) (cond l (Some (Changed y (parts_of x y))) None) ≡ Some Removed → Some y ≡ None
    by true l e = cc
    by false true e = cc
    by false false e = cc

told_none : (opens : Bool) (o : Option Node) → told opens o None true ≡ None
told_none opens None = refl
told_none opens (Some x) = refl

none_told_below : (opens : Bool) (f g : Path → Option Node) → HasFronts g → (p : Path) (n : Name) (r : Path) → told_at opens f g p ≡ Some Removed → told_at opens f g (p ++ n ∷ r) ≡ None
none_told_below opens f g hg p n r e =
    let gone = removed_is_gone opens (f p) (g p) (is_some (blocked g p)) e in
    (λ i. told opens (f (p ++ n ∷ r)) (nothing_below g hg p gone (n ∷ r) i) (blocked_below g p n r gone i))
    ∙ told_none opens (f (p ++ n ∷ r))

-- ---- a change stands before a later one

deleted_is_removed : (p : Path) (t : Told) → is_delete (told_change p t).action ≡ true → t ≡ Removed
deleted_is_removed p Removed h = refl
deleted_is_removed p (Added y) h = absurd (true≢false (sym h))
deleted_is_removed p (Replaced y) h = absurd (true≢false (sym h))
deleted_is_removed p (Changed y parts) h = absurd (true≢false (sym h))

path_of_change : (p : Path) (t : Told) → (told_change p t).path ≡ p
path_of_change p Removed = refl
path_of_change p (Added y) = refl
path_of_change p (Replaced y) = refl
path_of_change p (Changed y parts) = refl

module _ (opens : Bool) (f g : Path → Option Node) (hg : HasFronts g) (es : List (Path × Told)) (h : AreDifferences opens f g es) where
  no_front : (e x : Path × Told) → IsFound es e → IsFound es x → path_cmp e.0 x.0 ≡ Less → is_delete (change_of e).action ≡ true → is_front e.0 x.0 ≡ false
  no_front e x is there less deletes = by (rest_after e.0 x.0) refl
    where
      removed : told_at opens f g e.0 ≡ Some Removed
      removed = sym (h.each e.0) ∙ is ∙ ap (λ t. Some t) (deleted_is_removed e.0 e.1 deletes)

      by : (o : Option Path) → rest_after e.0 x.0 ≡ o → is_some o ≡ false
      by None at = refl
      by (Some []) at = cc (sym less ∙ ap (path_cmp e.0) (append_of_rest e.0 x.0 [] at ∙ append-nil e.0) ∙ tied_itself paths_total e.0)
      by (Some (n ∷ r)) at = cc (sym there ∙ h.each x.0 ∙ ap (told_at opens f g) (append_of_rest e.0 x.0 (n ∷ r) at) ∙ none_told_below opens f g hg e.0 n r removed)

  precedes : (e x : Path × Told) → IsFound es e → IsFound es x → path_cmp e.0 x.0 ≡ Less → Precedes (change_of e) (change_of x)
  precedes e x is there less = record {
    rises = (λ i. path_cmp (path_of_change e.0 e.1 i) (path_of_change x.0 x.1 i)) ∙ less;
    stands = λ deletes. (λ i. is_front (path_of_change e.0 e.1 i) (path_of_change x.0 x.1 i)) ∙ no_front e x is there less deletes;
  }

  all_precede : (e : Path × Told) (xs : List (Path × Told)) → IsFound es e → AllByRecursion (IsFound es) xs → T (below_all path_cmp e.0 xs) → AllByRecursion (Precedes (change_of e)) (changes_of xs)
  all_precede e [] is there below = tt
  all_precede e (x ∷ xs) is there below =
      let b = both_true _ _ below in
      (precedes e x is there.0 (less_than _ b.0), all_precede e xs is there.1 b.1)

  all_normal : (xs : List (Path × Told)) → AllByRecursion (IsFound es) xs → T (is_sorted path_cmp xs) → IsNormal (changes_of xs)
  all_normal [] there s = tt
  all_normal (x ∷ xs) there s =
      let b = both_true _ _ s in
      (whole x, all_precede x xs there.0 there.1 b.0, all_normal xs there.1 b.1)

pub normal : (opens : Bool) (f g : Path → Option Node) → HasFronts g → (es : List (Path × Told)) → AreDifferences opens f g es → IsNormal (changes_of es)
normal opens f g hg es h = all_normal opens f g hg es h es (all_found es h.in_order) h.in_order
