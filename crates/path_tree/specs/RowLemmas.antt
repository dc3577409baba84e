-- A value is smaller than what has it: the twigs of a row, and a branch.
use Rattle.std.proofs.Common.{◌≡◌, ◌+◌, ◌≤◌, [], ◌∷◌, ◌++◌, length, Some, None, refl, sym, ap, ◌∙◌, arith, length-append, append_assoc}
use Rattle.std.specs.Arc.{arc_value}
use Rattle.std.specs.FinMap.{entries, len, len-entries}
use Rattle.node_base.specs.Path.{Name}
use Rattle.node_base.specs.declared.node.Node.{Node}
use Rattle.node_base.specs.Tree.{PathMap}
use Rattle.path_tree.specs.declared.branch.Branch.TheDeep.{deep-Branch, deep-Child, deep-Twig}
use Rattle.path_tree.specs.declared.branch.Branch.TheInside.{Inside as BranchInside}
use Rattle.path_tree.specs.declared.child.Child.TheInside.{Inside as ChildInside}
use Rattle.path_tree.specs.declared.row.Twig.TheInside.{Inside as TwigInside}
use Rattle.path_tree.specs.Joined.{AreChildren, behind, below, joined}
use Rattle.path_tree.specs.JoinedLemmas.{entries-joined, length-behind}
use Rattle.path_tree.specs.Rows.{Children, in_row, IsTwig, row_size, branch_size, entry_size}

pub below-append : (l r : Children) → below (l ++ r) ≡ below l ++ below r
below-append [] r = refl
below-append (c ∷ l) r = ap (λ z. behind c.0 (entries c.1) ++ z) (below-append l r) ∙ sym (append_assoc (behind c.0 (entries c.1)) (below l) (below r))

pub length-below : (l : Children) (c : Name × PathMap) (r : Children) → length (below (l ++ c ∷ r)) ≡ length (below l) + len c.1 + length (below r)
length-below l c r =
    let all : length (below (l ++ c ∷ r)) ≡ length (below l) + (length (behind c.0 (entries c.1)) + length (below r)) =
    ap length (below-append l (c ∷ r)) ∙ length-append (below l) (behind c.0 (entries c.1) ++ below r) ∙ ap (λ n. length (below l) + n) (length-append (behind c.0 (entries c.1)) (below r)) in
    omega (arith, all, length-behind c.0 (entries c.1), len-entries c.1)

pub len-joined : (n : Node) (cs : Children) → AreChildren cs → len (joined n cs) ≡ length (below cs) + 1
len-joined n cs h = omega (arith, len-entries (joined n cs), ap length (entries-joined n cs h))

-- a child's branch
pub child_falls : (a : ChildInside) → deep-Child a ≤ entry_size (arc_value (arc_value a.entry).name, (arc_value a.entry).branch)
child_falls a = omega arith

-- a child and the rows beside it
pub twig_falls : (a : TwigInside) → IsTwig (in_row a.before) a.child (in_row a.behind) a.reach → deep-Twig a ≤ row_size (in_row a.before ++ a.child ∷ in_row a.behind)
twig_falls a h =
    let c = a.child in
    elim a.before as (λ o. deep-Twig (record { child = a.child; before = o; behind = a.behind; height = a.height; reach = a.reach }) ≤ row_size (in_row o ++ c ∷ in_row a.behind)) [
      | None ↦ elim a.behind as (λ p. deep-Twig (record { child = a.child; before = None; behind = p; height = a.height; reach = a.reach }) ≤ row_size (c ∷ in_row p)) [
        | None ↦ omega (arith, length-below [] c [], h.rooted)
        | Some t ↦ omega (arith, length-below [] c (arc_value t), h.rooted)
      ]
      | Some s ↦ elim a.behind as (λ p. deep-Twig (record { child = a.child; before = Some s; behind = p; height = a.height; reach = a.reach }) ≤ row_size (arc_value s ++ c ∷ in_row p)) [
        | None ↦ omega (arith, length-below (arc_value s) c [], h.rooted)
        | Some t ↦ omega (arith, length-below (arc_value s) c (arc_value t), h.rooted)
      ]
    ]

-- the row below a node
pub branch_falls : (a : BranchInside) → AreChildren (in_row a.children) → deep-Branch a ≤ branch_size (joined a.node (in_row a.children))
branch_falls a h =
    elim a.children as (λ o. AreChildren (in_row o) → deep-Branch (record { node = a.node; children = o }) ≤ branch_size (joined a.node (in_row o))) [
      | None ↦ λ h. omega (arith, len-joined a.node [] h)
      | Some t ↦ λ h. omega (arith, len-joined a.node (arc_value t) h)
    ] h
