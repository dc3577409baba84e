-- A listing in path order, child by child.
use Rattle.std.proofs.Common.{Bor, ◌≡◌, ℕ, ◌-◌, take, arith, length-append, suc, ◌+◌, ◌<◌, List, [], ◌∷◌, ◌++◌, length, drop, get_or, refl, sym, ap, ◌∙◌, append_assoc, append-nil, add-one, drop-cons}
use Rattle.std.proofs.lemmas.List.{take-map, length-map}
use Rattle.std.proofs.Math.Seq.{take-append_seam}
use Rattle.std.specs.FinMap.{entries}
use Rattle.node_base.specs.Path.{Name, Path}
use Rattle.node_base.specs.declared.node.Node.{Node}
use Rattle.node_base.specs.Tree.{PathMap}
use Rattle.path_tree.specs.Joined.{behind, below, joined, AreChildren, under}
use Rattle.path_tree.specs.declared.listing.Entry.{Entry}
use Rattle.path_tree.specs.Listed.{shown, shown_names}
use Rattle.path_tree.specs.JoinedLemmas.{entries-joined}
use Rattle.path_tree.specs.RowLemmas.{below-append}

shown-append : (es fs : List Entry) → shown (es ++ fs) ≡ shown es ++ shown fs
shown-append [] fs = refl
shown-append (e ∷ es) fs = ap (λ s. (shown_names e.path.items, e.node.now) ∷ s) (shown-append es fs)

pub under-append : (p : Path) (es fs : List (Path × Node)) → under p (es ++ fs) ≡ under p es ++ under p fs
under-append p [] fs = refl
under-append p (e ∷ es) fs = ap (λ s. (p ++ e.0, e.1) ∷ s) (under-append p es fs)

pub under-behind : (p : Path) (n : Name) (es : List (Path × Node)) → under p (behind n es) ≡ under (p ++ n ∷ []) es
under-behind p n [] = refl
under-behind p n (e ∷ es) = λ i. (sym (append_assoc p (n ∷ []) e.0) i, e.1) ∷ under-behind p n es i

names-append : (ns ms : List (Bor Name)) → shown_names (ns ++ ms) ≡ shown_names ns ++ shown_names ms
names-append [] ms = refl
names-append (n ∷ ns) ms = ap (λ s. n.now ∷ s) (names-append ns ms)

-- a name more
pub names_pushed : (old new : List (Bor Name)) (n : Bor Name) (p : Path) (x : Name) → new ≡ old ++ n ∷ [] → shown_names old ≡ p → n.now ≡ x → shown_names new ≡ p ++ x ∷ []
names_pushed old new n p x e h is = ap shown_names e ∙ names-append old (n ∷ []) ∙ (λ i. h i ++ is i ∷ [])

-- a name less
pub names_popped : (old new : List (Bor Name)) (k : ℕ) (p : Path) (x : Name) → shown_names old ≡ p ++ x ∷ [] → k ≡ length old → new ≡ take (k - 1) old → shown_names new ≡ p
names_popped old new k p x h len e =
    let long : length old ≡ length p + 1 = omega (arith, length-map old (λ n. n.now), ap length h, length-append p (x ∷ [])) in
    let short : k - 1 ≡ length p = omega (arith, len, long) in
    ap shown_names e ∙ sym (take-map (λ n. n.now) (k - 1) old) ∙ ap (take (k - 1)) h ∙ ap (λ j. take j (p ++ x ∷ [])) short ∙ take-append_seam p (x ∷ [])

-- the entries behind the empty path
pub under_root : (es : List (Path × Node)) → under [] es ≡ es
under_root [] = refl
under_root (e ∷ es) = ap (λ s. e ∷ s) (under_root es)

module _ (p : Path) (out : List Entry) where
  pub list_begin : (x : Node) (cs : List (Name × PathMap)) → AreChildren cs → (self : PathMap) → joined x cs ≡ self → (e : Entry) → shown_names e.path.items ≡ p → e.node.now ≡ x → (new : List Entry) → new ≡ out ++ e ∷ [] → shown new ++ under p (below cs) ≡ shown out ++ under p (entries self)
  list_begin x cs s self is e ep ex new en =
      ap (λ z. shown z ++ under p (below cs)) en
      ∙ ap (λ z. z ++ under p (below cs)) (shown-append out (e ∷ []))
      ∙ append_assoc (shown out) ((shown_names e.path.items, e.node.now) ∷ []) (under p (below cs))
      ∙ (λ i. shown out ++ ((ep ∙ sym (append-nil p)) i, ex i) ∷ under p (below cs))
      ∙ ap (λ es. shown out ++ under p es) (sym (entries-joined x cs s) ∙ ap entries is)

  pub list_child : (cs : List (Name × PathMap)) (i : ℕ) (c : Name × PathMap) → i < length cs → c ≡ get_or cs i c → (new : List Entry) → shown new ≡ shown out ++ under (p ++ c.0 ∷ []) (entries c.1) → shown new ++ under p (below (drop (i + 1) cs)) ≡ shown out ++ under p (below (drop i cs))
  list_child cs i c here is new e =
      let split : drop i cs ≡ c ∷ drop (i + 1) cs = rw (add-one i) (drop-cons cs i c here ∙ ap (λ y. y ∷ drop (suc i) cs) (sym is)) in
      ap (λ z. z ++ under p (below (drop (i + 1) cs))) e
      ∙ append_assoc (shown out) (under (p ++ c.0 ∷ []) (entries c.1)) (under p (below (drop (i + 1) cs)))
      ∙ ap (λ z. shown out ++ (z ++ under p (below (drop (i + 1) cs)))) (sym (under-behind p c.0 (entries c.1)))
      ∙ ap (λ z. shown out ++ z) (sym (under-append p (behind c.0 (entries c.1)) (below (drop (i + 1) cs))))
      ∙ ap (λ z. shown out ++ under p (below z)) (sym split)

-- a child's entries, behind its name
pub list_of_child : (p : Path) (out new : List (Path × Node)) (x : Name) (m : PathMap) → new ≡ out ++ under (p ++ x ∷ []) (entries m) → new ≡ out ++ under p (behind x (entries m))
list_of_child p out new x m e = e ∙ ap (λ z. out ++ z) (sym (under-behind p x (entries m)))

-- those before a child, the child, and those behind it
pub list_of_row : (p : Path) (start front middle end : List (Path × Node)) (l : List (Name × PathMap)) (c : Name × PathMap) (r : List (Name × PathMap)) → front ≡ start ++ under p (below l) → middle ≡ front ++ under p (behind c.0 (entries c.1)) → end ≡ middle ++ under p (below r)
    → end ≡ start ++ under p (below (l ++ c ∷ r))
list_of_row p start front middle end l c r e f g =
    g ∙ ap (λ z. z ++ under p (below r)) (f ∙ ap (λ z. z ++ under p (behind c.0 (entries c.1))) e ∙ append_assoc start (under p (below l)) (under p (behind c.0 (entries c.1))))
    ∙ append_assoc start (under p (below l) ++ under p (behind c.0 (entries c.1))) (under p (below r))
    ∙ ap (λ z. start ++ z) (append_assoc (under p (below l)) (under p (behind c.0 (entries c.1))) (under p (below r)) ∙ sym (ap (under p) (below-append l (c ∷ r)) ∙ under-append p (below l) (below (c ∷ r)) ∙ ap (λ z. under p (below l) ++ z) (under-append p (behind c.0 (entries c.1)) (below r))))
