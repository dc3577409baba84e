-- The children of a node, out of its row, and those of a path, out of the tree's entries.
use Rattle.std.proofs.Common.{◌≡◌, true, false, cond, T, List, [], ◌∷◌, ◌++◌, Some, None, refl, sym, ap, ◌∙◌, append_assoc, append-nil}
use Rattle.std.specs.Option.{option_map_or}
use Rattle.std.specs.List.{flat_map}
use Rattle.std.proofs.lemmas.Grind.{flat_map-append}
use Rattle.std.specs.FinMap.{find, get, entries, is_sorted, get-entries, entries_sorted}
use Rattle.std.specs.FinMap.Entries.{below_all}
use Rattle.node_base.specs.Path.{Name, Path, name_cmp, path_cmp, same_name}
use Rattle.node_base.proofs.PathLemmas.{name_of_same}
use Rattle.node_base.specs.declared.node.Node.{Node}
use Rattle.node_base.specs.Tree.{PathMap}
use Rattle.path_tree.specs.Children.{name_in, named_in, children_of}
use Rattle.path_tree.specs.declared.row.Waiting.{Waiting}
use Rattle.path_tree.specs.InOrder.{to_come, tops}
use Rattle.path_tree.specs.Joined.{behind, below, joined, AreChildren}
use Rattle.path_tree.specs.JoinedLemmas.{both_true, less_than, find_absent, entries-joined}
use Rattle.path_tree.specs.Rows.{Children, in_row}

-- ---- those that wait

to_come_pushed : (ws : List Waiting) (w : Waiting) → to_come (ws ++ w ∷ []) ≡ w.child.now ∷ in_row w.behind.now ++ to_come ws
to_come_pushed [] w = sym (append-nil (w.child.now ∷ in_row w.behind.now))
to_come_pushed (v ∷ ws) w = ap (λ z. z ++ v.child.now ∷ in_row v.behind.now) (to_come_pushed ws w) ∙ append_assoc (w.child.now ∷ in_row w.behind.now) (to_come ws) (v.child.now ∷ in_row v.behind.now)

-- a twig waits, and the row before it comes
pub row_comes : (old mid new : List Waiting) (w : Waiting) (l cs : Children) → l ++ w.child.now ∷ in_row w.behind.now ≡ cs → mid ≡ old ++ w ∷ [] → to_come new ≡ l ++ to_come mid → to_come new ≡ cs ++ to_come old
row_comes old mid new w l cs is e h =
    h
    ∙ ap (λ z. l ++ to_come z) e
    ∙ ap (λ z. l ++ z) (to_come_pushed old w)
    ∙ sym (append_assoc l (w.child.now ∷ in_row w.behind.now) (to_come old))
    ∙ ap (λ z. z ++ to_come old) is

-- the last that waits comes, and then the row behind it
pub first_comes : (old mid new : List Waiting) (w : Waiting) (x : Node) → old ≡ mid ++ w ∷ [] → get w.child.now.1 [] ≡ Some x → to_come new ≡ in_row w.behind.now ++ to_come mid → tops (to_come old) ≡ (w.child.now.0, x) ∷ tops (to_come new)
first_comes old mid new w x e node h =
    ap (λ z. tops (to_come z)) e
    ∙ ap tops (to_come_pushed mid w)
    ∙ ap (λ o. option_map_or (λ y. (w.child.now.0, y) ∷ []) o [] ++ tops (in_row w.behind.now ++ to_come mid)) node
    ∙ ap (λ z. (w.child.now.0, x) ∷ tops z) (sym h)

-- ---- the children at the root

no_root : (es : List (Path × Node)) → T (below_all path_cmp [] es) → find path_cmp [] es ≡ None
no_root [] h = refl
no_root (e ∷ es) h = let b = both_true _ _ h in rw (less_than (path_cmp [] e.0) b.0) (no_root es b.1)

root_step : (n : Name) (p : Path) (x : Node) (es : List (Path × Node)) → T (below_all path_cmp p es) → flat_map (named_in []) (behind n es) ≡ option_map_or (λ y. (n, y) ∷ []) (find path_cmp [] es) []
    → flat_map (named_in []) (behind n ((p, x) ∷ es)) ≡ option_map_or (λ y. (n, y) ∷ []) (find path_cmp [] ((p, x) ∷ es)) []
root_step n [] x es b h = ap (λ z. (n, x) ∷ z) (h ∙ ap (λ o. option_map_or (λ y. (n, y) ∷ []) o []) (no_root es b))
root_step n (m ∷ p) x es b h = h

-- of the entries behind a name, the root's alone is a child
root_of : (n : Name) (es : List (Path × Node)) → T (is_sorted path_cmp es) → flat_map (named_in []) (behind n es) ≡ option_map_or (λ y. (n, y) ∷ []) (find path_cmp [] es) []
root_of n [] h = refl
root_of n (e ∷ es) h = let b = both_true _ _ h in root_step n e.0 e.1 es b.0 (root_of n es b.1)

tops_below : (cs : Children) → flat_map (named_in []) (below cs) ≡ tops cs
tops_below [] = refl
tops_below (c ∷ cs) =
    flat_map-append (named_in []) (behind c.0 (entries c.1)) (below cs)
    ∙ (λ i. (root_of c.0 (entries c.1) (entries_sorted c.1) ∙ ap (λ o. option_map_or (λ y. (c.0, y) ∷ []) o []) (sym (get-entries c.1 []))) i ++ tops_below cs i)

-- ---- the children below a name

named_behind : (x : Name) (p : Path) (n : Name) (es : List (Path × Node)) → flat_map (named_in (x ∷ p)) (behind n es) ≡ cond (same_name x n) (flat_map (named_in p) es) []
named_behind x p n [] = elim (same_name x n) as (λ b. ◌≡◌ {A = List (Name × Node)} [] (cond b [] [])) [ true ↦ refl | false ↦ refl ]
named_behind x p n (e ∷ es) =
    ap (λ z. named_in (x ∷ p) (n ∷ e.0, e.1) ++ z) (named_behind x p n es)
    ∙ elim (same_name x n) as (λ b. option_map_or (λ y. (y, e.1) ∷ []) (cond b (name_in p e.0) None) [] ++ cond b (flat_map (named_in p) es) [] ≡ cond b (named_in p e ++ flat_map (named_in p) es) []) [ true ↦ refl | false ↦ refl ]

named_below : (x : Name) (p : Path) (cs : Children) → AreChildren cs → flat_map (named_in (x ∷ p)) (below cs) ≡ option_map_or (children_of p) (find name_cmp x cs) []
named_below x p [] h = refl
named_below x p (c ∷ cs) h =
    let b = both_true _ _ h in
    let rest = named_below x p cs b.1 in
    flat_map-append (named_in (x ∷ p)) (behind c.0 (entries c.1)) (below cs)
    ∙ ap (λ z. z ++ flat_map (named_in (x ∷ p)) (below cs)) (named_behind x p c.0 (entries c.1))
    ∙ elim (same_name x c.0) as (λ t. same_name x c.0 ≡ t → cond t (children_of p c.1) [] ++ flat_map (named_in (x ∷ p)) (below cs) ≡ option_map_or (children_of p) (cond t (Some c.1) (find name_cmp x cs)) []) [
      | true ↦ λ t. ap (λ z. children_of p c.1 ++ z) (rest ∙ ap (λ o. option_map_or (children_of p) o []) (find_absent x cs (rw (name_of_same x c.0 t) b.0))) ∙ append-nil (children_of p c.1)
      | false ↦ λ t. rest
    ] refl

-- ---- the children of a path, in a node and what is below it

module _ (n : Node) (cs : Children) (s : AreChildren cs) (self : PathMap) (is : joined n cs ≡ self) (path : Path) where
  pub children_here : path ≡ [] → tops cs ≡ children_of path self
  children_here e = sym (tops_below cs) ∙ ap (flat_map (named_in [])) (sym (entries-joined n cs s)) ∙ (λ i. children_of (sym e i) (is i))

  children_under : (x : Name) (p : Path) → path ≡ x ∷ p → children_of path self ≡ option_map_or (children_of p) (find name_cmp x cs) []
  children_under x p e = (λ i. children_of (e i) (sym is i)) ∙ ap (flat_map (named_in (x ∷ p))) (entries-joined n cs s) ∙ named_below x p cs s

  pub children_in_child : (x : Name) (p : Path) (k : PathMap) → path ≡ x ∷ p → find name_cmp x cs ≡ Some k → children_of p k ≡ children_of path self
  children_in_child x p k e found = sym (children_under x p e ∙ ap (λ o. option_map_or (children_of p) o []) found)

  pub children_in_none : (x : Name) (p : Path) → path ≡ x ∷ p → find name_cmp x cs ≡ None → children_of path self ≡ []
  children_in_none x p e found = children_under x p e ∙ ap (λ o. option_map_or (children_of p) o []) found
