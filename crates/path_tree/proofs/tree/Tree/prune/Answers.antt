use Rattle.std.proofs.Common.{◌≡◌, ◌++◌, ◌∷◌, [], Option, None, sym, ap, subst, ◌∙◌}
use Rattle.std.specs.Option.{option_copied}
use Rattle.std.specs.FinMap.{get}
use Rattle.node_base.specs.Path.{Path}
use Rattle.node_base.specs.declared.node.Node.{Node}
use Rattle.node_base.specs.Tree.{IsTree, grafted, marked}
use Rattle.path_tree.specs.declared.edit.Edit.TheVariants.{Prune}
use Rattle.path_tree.specs.Edits.{edit_at}
use Rattle.path_tree.specs.Nodes.{HasNodes, IsSmallTree}
use Rattle.path_tree.specs.Shape.{IsShape}
use Rattle.path_tree.proofs.Altered.{grafted_below, pruned_nothing}
use Rattle.path_tree.proofs.Alters.{graft_marked, none_marked}
use Rattle.path_tree.proofs.Edits.{on_ok}
use Rattle.path_tree.proofs.Fronts.{nothing_below, shape_of, shape-marked, shape-pruned}
use Rattle.path_tree.proofs.Kept.{nodes-marked, nodes-pruned}
use Rattle.path_tree.proofs.tree.Tree.prune.Goals as goal
use Rattle.path_tree.proofs.tree.Tree.prune.Goals.{In_ok-name}

pub returns-in_default-get-clause-ok : goal.returns-in_default-get-clause-ok
returns-in_default-get-clause-ok c =
    on_ok c.mark.result _ _
    (λ h q.
    let tree : IsTree c.args.self.now = (subst IsSmallTree c.self.view_is c.self.invariant).tree in
    let none : get c.args.self.now c.in-Some.above.now ≡ None = sym c.get.ensures ∙ ap option_copied c.in_default-get.is in
    let numbered = marked (get c.args.self.now) c.args.path.now c.args.number in
    h q
    ∙ pruned_nothing numbered c.in-Some.above.now c.in-Some.name.now (λ r. none_marked (get c.args.self.now) c.args.path.now c.args.number (c.in-Some.above.now ++ r) (nothing_below (get c.args.self.now) tree.fronts c.in-Some.above.now none r)) q
    ∙ ap (λ p. grafted numbered p (λ _. None) q) (sym c.in-Some.ensures.cases.0))
    c.mark.ensures.ok

split : (c : In_ok-name) → c.args.path.now ≡ c.in-Some.above.now ++ c.in_ok-name.name ∷ []
split c = c.in-Some.ensures.cases.0 ∙ ap (λ n. c.in-Some.above.now ++ n ∷ []) (sym c.in_ok-name.ensures)

-- the map with the number above the path
abbrev numbered : In_ok-name → Path → Option Node
numbered c = marked (get c.args.self.now) c.in-Some.above.now c.args.number

-- the edit is a removal at the path
removes : (c : In_ok-name) → ◌≡◌ {A = Path → Option Node} (grafted (numbered c) c.args.path.now (λ _. None)) (edit_at (Prune c.in_ok-name.name) (numbered c) c.in-Some.above.now)
removes c = λ i q.
    (ap (λ p. grafted (numbered c) p (λ _. None) q) (split c)
    ∙ sym (grafted_below (numbered c) c.in-Some.above.now (c.in_ok-name.name ∷ []) (λ _. None) q)) i

-- and the number goes to its proper fronts
numbers : (c : In_ok-name) → ◌≡◌ {A = Path → Option Node} (grafted (numbered c) c.args.path.now (λ _. None)) (grafted (marked (get c.args.self.now) c.args.path.now c.args.number) c.args.path.now (λ _. None))
numbers c =
    subst (λ p. ◌≡◌ {A = Path → Option Node} (grafted (numbered c) p (λ _. None)) (grafted (marked (get c.args.self.now) p c.args.number) p (λ _. None))) (sym (split c))
    (λ i q. graft_marked (get c.args.self.now) (λ _. None) c.in-Some.above.now c.in_ok-name.name c.args.number q i)

pub alter-requires-clause-shape : goal.alter-requires-clause-shape
alter-requires-clause-shape c =
    let tree : IsTree c.args.self.now = (subst IsSmallTree c.self.view_is c.self.invariant).tree in
    let e = (goal.at.alter-requires-clause-shape c).In_ok-name in
    subst IsShape (ap (λ p. grafted (numbered e) p (λ _. None)) (sym (split e)) ∙ removes e)
    (shape-pruned (numbered e) c.in-Some.above.now c.in_ok-name.name (shape-marked (get c.args.self.now) c.in-Some.above.now c.args.number (shape_of c.args.self.now tree)))

pub alter-requires-clause-nodes : goal.alter-requires-clause-nodes
alter-requires-clause-nodes c =
    let small : IsSmallTree c.args.self.now = subst IsSmallTree c.self.view_is c.self.invariant in
    let e = (goal.at.alter-requires-clause-nodes c).In_ok-name in
    subst HasNodes (removes e) (nodes-pruned (numbered e) c.args.path.now (nodes-marked (get c.args.self.now) c.in-Some.above.now c.args.number small.kept))

pub returns-clause-ok : goal.returns-clause-ok
returns-clause-ok c =
    let e = (goal.at.returns-clause-ok c).In_ok-name in
    on_ok c.alter.result _ _ (λ h q. h q ∙ (λ i. sym (removes e) i q) ∙ (λ i. numbers e i q)) c.alter.ensures.ok
