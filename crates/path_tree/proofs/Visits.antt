-- What is said of the nodes of a tree, child by child.
use Rattle.std.proofs.Common.{◌≡◌, ℕ, List, [], ◌∷◌, ◌++◌, length, take, refl, sym, ap, ◌∙◌, append_assoc, append-nil}
use Rattle.std.proofs.Math.Seq.{take-append_seam}
use Rattle.std.specs.List.{flat_map}
use Rattle.std.proofs.lemmas.Grind.{flat_map-append}
use Rattle.std.specs.FinMap.{entries}
use Rattle.node_base.specs.Path.{Name, Path}
use Rattle.node_base.specs.PathText.{slashed}
use Rattle.node_base.specs.declared.node.Node.{Node}
use Rattle.node_base.specs.Tree.{PathMap}
use Rattle.path_tree.specs.Joined.{behind, below, joined, AreChildren}
use Rattle.path_tree.specs.JoinedLemmas.{entries-joined}
use Rattle.path_tree.specs.RowLemmas.{below-append}
use Rattle.path_tree.specs.Visited.{texts}

texts-append : (t : List ℕ) (es fs : List (Path × Node)) → texts t (es ++ fs) ≡ texts t es ++ texts t fs
texts-append t [] fs = refl
texts-append t (e ∷ es) fs = ap (λ s. (t ++ slashed e.0, e.1) ∷ s) (texts-append t es fs)

texts-behind : (t : List ℕ) (n : Name) (es : List (Path × Node)) → texts t (behind n es) ≡ texts (t ++ 47 ∷ n) es
texts-behind t n [] = refl
texts-behind t n (e ∷ es) = λ i. (sym (append_assoc t (47 ∷ n) (slashed e.0)) i, e.1) ∷ texts-behind t n es i

-- a name more
pub text_more : (t pushed new n : List ℕ) → pushed ≡ t ++ 47 ∷ [] → new ≡ pushed ++ n → new ≡ t ++ 47 ∷ n
text_more t pushed new n p e = e ∙ ap (λ z. z ++ n) p ∙ append_assoc t (47 ∷ []) n

-- a name less
pub text_less : (t long n new : List ℕ) → long ≡ t ++ 47 ∷ n → new ≡ take (length t) long → new ≡ t
text_less t long n new e h = h ∙ ap (take (length t)) e ∙ take-append_seam t (47 ∷ n)

module _ (f : List ℕ × Node → List ℕ) (t : List ℕ) (out : List ℕ) where
  -- a node, and then what is below it
  pub said_begin : (x : Node) (cs : List (Name × PathMap)) → AreChildren cs → (self : PathMap) → joined x cs ≡ self → (mid new : List ℕ) → mid ≡ out ++ f (t, x) → new ≡ mid ++ flat_map f (texts t (below cs)) → new ≡ out ++ flat_map f (texts t (entries self))
  said_begin x cs s self is mid new first rest =
      rest
      ∙ ap (λ z. z ++ flat_map f (texts t (below cs))) first
      ∙ append_assoc out (f (t, x)) (flat_map f (texts t (below cs)))
      ∙ ap (λ q. out ++ (f (q, x) ++ flat_map f (texts t (below cs)))) (sym (append-nil t))
      ∙ ap (λ es. out ++ flat_map f (texts t es)) (sym (entries-joined x cs s) ∙ ap entries is)

  -- a child's nodes, behind its name
  pub said_of_child : (new : List ℕ) (x : Name) (m : PathMap) → new ≡ out ++ flat_map f (texts (t ++ 47 ∷ x) (entries m)) → new ≡ out ++ flat_map f (texts t (behind x (entries m)))
  said_of_child new x m e = e ∙ ap (λ z. out ++ flat_map f z) (sym (texts-behind t x (entries m)))

  -- those before a child, the child, and those behind it
  pub said_of_row : (front middle end : List ℕ) (l : List (Name × PathMap)) (c : Name × PathMap) (r : List (Name × PathMap)) → front ≡ out ++ flat_map f (texts t (below l)) → middle ≡ front ++ flat_map f (texts t (behind c.0 (entries c.1))) → end ≡ middle ++ flat_map f (texts t (below r))
      → end ≡ out ++ flat_map f (texts t (below (l ++ c ∷ r)))
  said_of_row front middle end l c r e g h =
      let before = flat_map f (texts t (below l)) in
      let here = flat_map f (texts t (behind c.0 (entries c.1))) in
      let after = flat_map f (texts t (below r)) in
      let rest : flat_map f (texts t (below (c ∷ r))) ≡ here ++ after =
      ap (λ z. flat_map f z) (texts-append t (behind c.0 (entries c.1)) (below r)) ∙ flat_map-append f (texts t (behind c.0 (entries c.1))) (texts t (below r)) in
      let all : flat_map f (texts t (below (l ++ c ∷ r))) ≡ before ++ (here ++ after) =
      ap (λ z. flat_map f (texts t z)) (below-append l (c ∷ r)) ∙ ap (λ z. flat_map f z) (texts-append t (below l) (below (c ∷ r))) ∙ flat_map-append f (texts t (below l)) (texts t (below (c ∷ r))) ∙ ap (λ z. before ++ z) rest in
      h
      ∙ ap (λ z. z ++ after) (g ∙ ap (λ z. z ++ here) e ∙ append_assoc out before here)
      ∙ append_assoc out (before ++ here) after
      ∙ ap (λ z. out ++ z) (append_assoc before here after ∙ sym all)
