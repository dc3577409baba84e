use Rattle.std.proofs.Common.{◌≡◌, ◌++◌, ◌∷◌, [], true, sym, ap, subst, ◌∙◌}
use Rattle.std.specs.Prelude.{IsSome}
use Rattle.std.specs.FinMap.{get}
use Rattle.node_base.specs.Path.{Path}
use Rattle.node_base.specs.Limits.{fits}
use Rattle.node_base.specs.Tree.{IsDirAt, blocked, grafted}
use Rattle.path_tree.proofs.Fronts.{dir_above, dir_is_there, shape_of, shape-grafted, tree_after}
use Rattle.plain_tree.proofs.tree.Tree.graft.Goals as goal
use Rattle.plain_tree.proofs.tree.Tree.graft.Goals.{After-graft-arg-1}

-- the path is the name behind the path above it
split : (c : After-graft-arg-1) → c.args.path.now ≡ c.in-Some.above.now ++ c.in_ok-name.name ∷ []
split c = sym c.names.ensures.names ∙ c.in-Some.ensures.cases.0 ∙ ap (λ n. c.in-Some.above.now ++ n ∷ []) (sym c.in_ok-name.ensures)

dir : (c : After-graft-arg-1) → IsDirAt (get c.self.inside.root) c.in-Some.above.now
dir c = dir_above (get c.self.inside.root) c.in-Some.above.now c.in_ok-name.name
    (ap (λ m. blocked (get m) (c.in-Some.above.now ++ c.in_ok-name.name ∷ [])) c.self.view_is ∙ ap (blocked (get c.args.self.now)) (sym (split c)) ∙ c.requires.not_blocked)

pub graft-requires : goal.graft-requires
graft-requires c = dir_is_there (get c.self.inside.root c.in-Some.above.now) (dir c)

pub invariant_of-self : goal.invariant_of-self
invariant_of-self c =
    let m = c.self.inside.root in
    let e = (goal.at.invariant_of-self c).After-graft-arg-1 in
    tree_after c.graft.result m c.graft.new.self (grafted (get m) (c.in-Some.above.now ++ c.in_ok-name.name ∷ []) (get c.args.branch)) c.graft.ensures.ok c.graft.ensures.err c.self.invariant
    (shape-grafted (get m) (get c.args.branch) c.in-Some.above.now c.in_ok-name.name (shape_of m c.self.invariant) c.requires.fronts
    (subst (λ p. (r : Path) → IsSome (get c.args.branch r) → fits (p ++ r) ≡ true) (split e) c.requires.small) (dir e))
