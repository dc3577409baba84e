-- A child that is edited among children, from the parts of a row.
use Rattle.std.proofs.Common.{◌≡◌, ℕ, ◌∷◌, ◌++◌, Option, Result, Ok, Err, IfOk, OnOk, OnErr, IsSome, sym, ap, subst, ◌∙◌}
use Rattle.std.specs.Option.{option_and_then}
use Rattle.std.specs.declared.cmp.Ordering.TheVariants.{Less, Equal, Greater}
use Rattle.std.specs.FinMap.{get}
use Rattle.std.specs.FinMap.Entries.{put}
use Rattle.node_base.specs.Path.{Name, Path, name_cmp, names_exact}
use Rattle.node_base.specs.declared.node.Node.{Node}
use Rattle.node_base.specs.Tree.{PathMap}
use Rattle.path_tree.specs.declared.edit.Edit.{Edit}
use Rattle.path_tree.specs.Edits.{ChildAlters, edit_at, marked_by, renumbered}
use Rattle.path_tree.specs.Joined.{AreChildren, child_at, joined}
use Rattle.path_tree.specs.JoinedLemmas.{get-joined}
use Rattle.path_tree.specs.Rows.{Children}
use Rattle.path_tree.proofs.Alters.{altered_in_child}
use Rattle.path_tree.proofs.Rows.{row_find_before, row_find_here, row_find_behind, row_put_before, row_put_here, row_put_behind, swaps_with}

module _ (cs l : Children) (c : Name × PathMap) (r : Children) (is : l ++ c ∷ r ≡ cs) (s : AreChildren cs) (x : Name) (p : Path) where
  -- ---- where the child of that name stands

  pub there_before : name_cmp x c.0 ≡ Less → IsSome (child_at cs x p) → IsSome (child_at l x p)
  there_before o h = subst (λ (m : Option PathMap). IsSome (option_and_then (λ m. get m p) m)) (sym (row_find_before cs l c r is s x o)) h

  pub there_here : name_cmp x c.0 ≡ Equal → IsSome (child_at cs x p) → IsSome (get c.1 p)
  there_here o h = subst (λ (m : Option PathMap). IsSome (option_and_then (λ m. get m p) m)) (row_find_here cs l c r is s x o) h

  pub there_behind : name_cmp x c.0 ≡ Greater → IsSome (child_at cs x p) → IsSome (child_at r x p)
  there_behind o h = subst (λ (m : Option PathMap). IsSome (option_and_then (λ m. get m p) m)) (sym (row_find_behind cs l c r is s x o)) h

  -- ---- it is edited there

  module _ (e : Edit) (number : Option ℕ) where
    pub alters_before : name_cmp x c.0 ≡ Less → (l' : Children) (c' : Name × PathMap) (r' : Children) → c' ≡ c → r' ≡ r → ChildAlters l l' x p e number → ChildAlters cs (l' ++ c' ∷ r') x p e number
    alters_before o l' c' r' ec er h = record {
      before = h.before;
      after = h.after;
      found = sym (row_find_before cs l c r is s x o) ∙ h.found;
      placed = row_put_before cs l c r is s x l' r' c' h.after o h.placed ec er;
      altered = h.altered;
    }

    pub alters_here : name_cmp x c.0 ≡ Equal → (l' : Children) (c' : Name × PathMap) (r' : Children) → l' ≡ l → r' ≡ r → c'.0 ≡ c.0 → ((q : Path) → get c'.1 q ≡ edit_at e (marked_by number (get c.1) p) p q) → ChildAlters cs (l' ++ c' ∷ r') x p e number
    alters_here o l' c' r' el er same h = record {
      before = c.1;
      after = c'.1;
      found = row_find_here cs l c r is s x o;
      placed = row_put_here cs l c r is s x l' r' c' c'.1 o el (λ i. ((same ∙ sym (names_exact x c.0 o)) i, c'.1)) er;
      altered = h;
    }

    pub alters_behind : name_cmp x c.0 ≡ Greater → (l' : Children) (c' : Name × PathMap) (r' : Children) → l' ≡ l → c' ≡ c → ChildAlters r r' x p e number → ChildAlters cs (l' ++ c' ∷ r') x p e number
    alters_behind o l' c' r' el ec h = record {
      before = h.before;
      after = h.after;
      found = sym (row_find_behind cs l c r is s x o) ∙ h.found;
      placed = row_put_behind cs l c r is s x l' r' c' h.after o el ec h.placed;
      altered = h.altered;
    }

-- children are in order where one was put, and where none was
pub rises_put : {T E : Type 0} (o : Result T E) (old new : Children) (x : Name) (m : PathMap) → AreChildren old → OnOk o (new ≡ put name_cmp x m old) → OnErr o (new ≡ old) → AreChildren new
rises_put (Ok a) old new x m s ok err = (swaps_with old new x s m ok).rising
rises_put (Err a) old new x m s ok err = subst AreChildren (sym err) s

-- what holds of a list holds of a row that is answered and has it
pub if_ok_holds : {R E : Type 0} (o : Result R E) (f : R → Children) (P : Children → Type 0) (a : Children) → P a → IfOk o (λ r. f r ≡ a) → IfOk o (λ r. P (f r))
if_ok_holds (Ok r) f P a p h = subst P (sym h) p
if_ok_holds (Err e) f P a p h = tt

-- ---- below a node

module _ (n : Node) (cs : Children) (s : AreChildren cs) (self : PathMap) (is : joined n cs ≡ self) (x : Name) (p path : Path) (front : path ≡ x ∷ p) where
  pub there_below : IsSome (get self path) → IsSome (child_at cs x p)
  there_below = subst IsSome (ap (get self) front ∙ ap (λ z. get z (x ∷ p)) (sym is) ∙ get-joined n cs s x p)

  module _ (new : Children) (e : Edit) (number : Option ℕ) (w : ChildAlters cs new x p e number) where
    pub rises_altered : AreChildren new
    rises_altered = (swaps_with cs new x s w.after w.placed).rising

    pub altered_below : (m : Node) → m ≡ renumbered number n → (q : Path) → get (joined m new) q ≡ edit_at e (marked_by number (get self) path) path q
    altered_below m same =
        subst (λ (m : Node). (q : Path) → get (joined m new) q ≡ edit_at e (marked_by number (get self) path) path q) (sym same)
        (altered_in_child number e n cs new x w.before w.after s (swaps_with cs new x s w.after w.placed) w.found p w.altered path front self is)
