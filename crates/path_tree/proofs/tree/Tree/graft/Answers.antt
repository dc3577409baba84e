use Rattle.std.proofs.Common.{◌≡◌, ◌++◌, ◌∷◌, [], Option, true, sym, ap, subst, ◌∙◌}
use Rattle.std.specs.Prelude.{IsSome}
use Rattle.std.specs.FinMap.{get}
use Rattle.node_base.specs.Path.{Path}
use Rattle.node_base.specs.Limits.{fits}
use Rattle.node_base.specs.declared.node.Node.{Node}
use Rattle.node_base.specs.Tree.{IsTree, IsDirAt, blocked, grafted, marked}
use Rattle.path_tree.specs.declared.edit.Edit.TheVariants.{Graft}
use Rattle.path_tree.specs.Edits.{edit_at}
use Rattle.path_tree.specs.Nodes.{HasNodes, IsSmallTree}
use Rattle.path_tree.specs.Shape.{IsShape}
use Rattle.path_tree.proofs.Altered.{grafted_below}
use Rattle.path_tree.proofs.Alters.{dir_marked, graft_marked}
use Rattle.path_tree.proofs.Edits.{on_ok}
use Rattle.path_tree.proofs.Fronts.{dir_above, dir_is_there, shape_of, shape-grafted, shape-marked}
use Rattle.path_tree.proofs.Kept.{nodes-grafted, nodes-marked}
use Rattle.path_tree.proofs.tree.Tree.graft.Goals as goal
use Rattle.path_tree.proofs.tree.Tree.graft.Goals.{In_ok-child}

-- the path is the name behind the path above it
split : (c : In_ok-child) → c.args.path.now ≡ c.in-Some.above.now ++ c.in_ok-child.child.0 ∷ []
split c = sym c.names.ensures.names ∙ c.in-Some.ensures.cases.0 ∙ ap (λ n. c.in-Some.above.now ++ n ∷ []) (sym (ap (λ z. z.0) c.in_ok-child.ensures ∙ c.in_ok-copy.ensures))

dir : (c : In_ok-child) → IsDirAt (get c.args.self.now) c.in-Some.above.now
dir c = dir_above (get c.args.self.now) c.in-Some.above.now c.in_ok-child.child.0 (ap (blocked (get c.args.self.now)) (sym (split c)) ∙ c.requires.not_blocked)

-- the map with the number above the child
abbrev numbered : In_ok-child → Path → Option Node
numbered c = marked (get c.args.self.now) c.in-Some.above.now c.args.number

-- the edit is a graft at the path
grafts : (c : In_ok-child) → ◌≡◌ {A = Path → Option Node} (grafted (numbered c) c.args.path.now (get c.args.branch)) (edit_at (Graft c.in_ok-child.child) (numbered c) c.in-Some.above.now)
grafts c = λ i q.
    ((λ j. grafted (numbered c) (split c j) (get (sym (ap (λ z. z.1) c.in_ok-child.ensures) j)) q)
    ∙ sym (grafted_below (numbered c) c.in-Some.above.now (c.in_ok-child.child.0 ∷ []) (get c.in_ok-child.child.1) q)) i

-- and the number goes to all its fronts
numbers : (c : In_ok-child) → ◌≡◌ {A = Path → Option Node} (grafted (numbered c) c.args.path.now (get c.args.branch)) (grafted (marked (get c.args.self.now) c.args.path.now c.args.number) c.args.path.now (get c.args.branch))
numbers c =
    subst (λ p. ◌≡◌ {A = Path → Option Node} (grafted (numbered c) p (get c.args.branch)) (grafted (marked (get c.args.self.now) p c.args.number) p (get c.args.branch))) (sym (split c))
    (λ i q. graft_marked (get c.args.self.now) (get c.args.branch) c.in-Some.above.now c.in_ok-child.child.0 c.args.number q i)

pub alter-requires-clause-there : goal.alter-requires-clause-there
alter-requires-clause-there c = dir_is_there (get c.args.self.now c.in-Some.above.now) (dir (goal.at.alter-requires-clause-there c).In_ok-child)

pub alter-requires-clause-shape : goal.alter-requires-clause-shape
alter-requires-clause-shape c =
    let tree : IsTree c.args.self.now = (subst IsSmallTree c.self.view_is c.self.invariant).tree in
    let e = (goal.at.alter-requires-clause-shape c).In_ok-child in
    let above = c.in-Some.above.now in
    subst IsShape (ap (λ p. grafted (numbered e) p (get c.args.branch)) (sym (split e)) ∙ grafts e)
    (shape-grafted (numbered e) (get c.args.branch) above c.in_ok-child.child.0 (shape-marked (get c.args.self.now) above c.args.number (shape_of c.args.self.now tree)) c.requires.fronts
    (subst (λ p. (r : Path) → IsSome (get c.args.branch r) → fits (p ++ r) ≡ true) (split e) c.requires.small) (dir_marked (get c.args.self.now) above c.args.number above (dir e)))

pub alter-requires-clause-nodes : goal.alter-requires-clause-nodes
alter-requires-clause-nodes c =
    let small : IsSmallTree c.args.self.now = subst IsSmallTree c.self.view_is c.self.invariant in
    let e = (goal.at.alter-requires-clause-nodes c).In_ok-child in
    subst HasNodes (grafts e)
    (nodes-grafted (numbered e) (get c.args.branch) c.args.path.now (nodes-marked (get c.args.self.now) c.in-Some.above.now c.args.number small.kept) c.requires.paths c.requires.nodes)

pub returns-clause-ok : goal.returns-clause-ok
returns-clause-ok c =
    let e = (goal.at.returns-clause-ok c).In_ok-child in
    on_ok c.alter.result _ _ (λ h q. h q ∙ (λ i. sym (grafts e) i q) ∙ (λ i. numbers e i q)) c.alter.ensures.ok
