-- What a number on the fronts of a path does to the whole map.
use Rattle.std.proofs.Common.{◌≡◌, ℕ, [], ◌∷◌, Some, None, refl, sym, ap, ◌∙◌}
use Rattle.std.specs.FinMap.{find, get}
use Rattle.node_base.specs.Path.{Name, Path, name_cmp, is_front}
use Rattle.node_base.specs.declared.node.Node.{Node}
use Rattle.node_base.specs.Tree.{PathMap, edited, marked, with_number}
use Rattle.path_tree.specs.Joined.{AreChildren, joined}
use Rattle.path_tree.specs.Rows.{Children}
use Rattle.path_tree.proofs.Place.{Swaps}
use Rattle.path_tree.proofs.Edits.{edits_as, edited_here, edited_no_child, edited_in_child, front_itself, front_elsewhere}

-- new is old with the number on the fronts of the path
abbrev pub Marks : PathMap → PathMap → Path → ℕ → Type 0
Marks old new p number = (q : Path) → get new q ≡ marked (get old) p number q

module _ (n : Node) (self : PathMap) (number : ℕ) where
  pub marks_here : (cs : Children) → AreChildren cs → joined n cs ≡ self → (path : Path) → path ≡ [] → Marks self (joined (with_number number n) cs) path number
  marks_here cs s is path e =
      edits_as _ _ self (λ q. is_front q []) (λ q. is_front q path) (with_number number) is (λ q. ap (is_front q) (sym e))
      (edited_here n (λ q. is_front q []) (with_number number) cs s (λ y q. refl))

  pub marks_in_child : (old new : Children) (x : Name) (k m : PathMap) → AreChildren old → Swaps old new x (Some m) → find name_cmp x old ≡ Some k → joined n old ≡ self → (p path : Path) → path ≡ x ∷ p → Marks k m p number → Marks self (joined (with_number number n) new) path number
  marks_in_child old new x k m s w found is p path e h =
      edits_as _ _ self (λ q. is_front q (x ∷ p)) (λ q. is_front q path) (with_number number) is (λ q. ap (is_front q) (sym e))
      (edited_in_child n (λ q. is_front q (x ∷ p)) (with_number number) x (front_elsewhere x p) old new k m s w found
      (λ q. h q ∙ (λ i. edited (get k) (λ r. front_itself x p r i) (with_number number) q)))

  pub marks_no_child : (cs : Children) (x : Name) → AreChildren cs → find name_cmp x cs ≡ None → joined n cs ≡ self → (p path : Path) → path ≡ x ∷ p → Marks self (joined (with_number number n) cs) path number
  marks_no_child cs x s none is p path e =
      edits_as _ _ self (λ q. is_front q (x ∷ p)) (λ q. is_front q path) (with_number number) is (λ q. ap (is_front q) (sym e))
      (edited_no_child n (λ q. is_front q (x ∷ p)) (with_number number) x (front_elsewhere x p) cs s none)
