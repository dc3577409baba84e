use Rattle.std.proofs.Common.{◌≡◌, [], ◌∷◌, ◌++◌, Option, sym, ap, subst, ◌∙◌, append-nil, append_assoc}
use Rattle.std.specs.Prelude.{IsSome, IfSome}
use Rattle.std.specs.FinMap.{get}
use Rattle.node_base.specs.Path.{Path, is_front}
use Rattle.node_base.specs.Tree.{HasFronts, grafted, marked, with_number}
use Rattle.node_base.specs.declared.node.Node.{Node}
use Rattle.path_tree.specs.Nodes.{IsNode}
use Rattle.path_tree.proofs.Alters.{mark_grafted, was_there, node_marked}
use Rattle.path_tree.proofs.Copies.{copy_fits}
use Rattle.path_tree.proofs.Edits.{on_ok, some_none}
use Rattle.path_tree.proofs.Fronts.{fronts-edited}
use Rattle.path_tree.proofs.Kept.{path_behind}
use Rattle.path_tree.proofs.tree.Tree.graft_copy.Goals as goal
use Rattle.path_tree.proofs.tree.Tree.graft_copy.Goals.{After-number}

pub unreachable-requires : goal.unreachable-requires
unreachable-requires c =
    some_none (get c.args.from.now c.args.source.now)
    (ap (get c.args.from.now) (sym (append-nil c.args.source.now)) ∙ ap (λ m. get m (c.args.source.now ++ [])) (sym (c.deref.ensures ∙ c.from.view_is)) ∙ c.in_default.ensures [])
    c.requires.there

-- what stands at the source and below it
abbrev source : After-number → Path → Option Node
source c r = get c.args.from.now (c.args.source.now ++ r)

-- the same, its top with the number
same_branch : (c : After-number) → ◌≡◌ {A = Path → Option Node} (get c.number.new.self) (marked (source c) [] c.args.number)
same_branch c = λ i r.
    (c.number.ensures r
    ∙ (λ j. marked (λ s. (ap (λ m. get m s) c.in_ok-branch.ensures ∙ c.in-Some.ensures s ∙ ap (λ m. get m (c.args.source.now ++ s)) (c.deref.ensures ∙ c.from.view_is)) j) [] c.args.number r)) i

-- a path that is there is there in the source
there : (c : After-number) (r : Path) → IsSome (get c.number.new.self r) → IsSome (source c r)
there c r some = was_there (source c r) (is_front r []) (with_number c.args.number) (subst (λ (f : Path → Option Node). IsSome (f r)) (same_branch c) some)

pub graft-requires-clause-fronts : goal.graft-requires-clause-fronts
graft-requires-clause-fronts c =
    let e = (goal.at.graft-requires-clause-fronts c).After-number in
    subst HasFronts (sym (same_branch e))
    (fronts-edited (source e) (λ q. is_front q []) (with_number c.args.number) (λ x h. h)
    (λ p n some. c.limits.ensures.tree.fronts (c.args.source.now ++ p) n (subst (λ q. IsSome (get c.args.from.now q)) (sym (append_assoc c.args.source.now p (n ∷ []))) some)))

pub graft-requires-clause-small : goal.graft-requires-clause-small
graft-requires-clause-small c = λ r some.
    copy_fits c.args.from.now c.args.source.now c.args.path.now c.requires.small r (there (goal.at.graft-requires-clause-small c).After-number r some)

pub graft-requires-clause-paths : goal.graft-requires-clause-paths
graft-requires-clause-paths c = λ r some.
    let at = there (goal.at.graft-requires-clause-paths c).After-number r some in
    path_behind c.args.path.now c.args.source.now r c.path_limits.ensures (c.limits.ensures.kept.paths (c.args.source.now ++ r) at)
    (copy_fits c.args.from.now c.args.source.now c.args.path.now c.requires.small r at)

pub graft-requires-clause-nodes : goal.graft-requires-clause-nodes
graft-requires-clause-nodes c = λ r.
    subst (λ (f : Path → Option Node). IfSome (f r) IsNode) (sym (same_branch (goal.at.graft-requires-clause-nodes c).After-number))
    (node_marked (get c.args.from.now (c.args.source.now ++ r)) (is_front r []) c.args.number (c.limits.ensures.kept.nodes (c.args.source.now ++ r)))

pub returns-clause-ok : goal.returns-clause-ok
returns-clause-ok c =
    let e = (goal.at.returns-clause-ok c).After-number in
    on_ok c.graft.result _ _
    (λ h q. h q
    ∙ ap (λ (g : Path → Option Node). grafted (marked (get c.args.self.now) c.args.path.now c.args.number) c.args.path.now g q) (same_branch e)
    ∙ mark_grafted (get c.args.self.now) (source e) c.args.path.now c.args.number q)
    c.graft.ensures.ok
