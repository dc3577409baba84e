use Rattle.std.proofs.Common.{◌≡◌, OnOk, OnErr, ap, subst, ◌∙◌}
use Rattle.std.specs.Arc.{arc_value}
use Rattle.std.specs.FinMap.{get}
use Rattle.node_base.specs.Path.{Path}
use Rattle.path_tree.specs.Edits.{edit_at, marked_by}
use Rattle.path_tree.specs.Nodes.{IsSmallTree}
use Rattle.path_tree.proofs.Kept.{small_of, small_after}
use Rattle.path_tree.proofs.tree.Tree.alter.Goals as goal
use Rattle.path_tree.proofs.tree.Tree.alter.Goals.{In-Some}

-- the branch that nobody else has is the tree's
same : (c : In-Some) → c.in-Some.root.now ≡ c.args.self.now
same c = c.in-Some.ensures.value ∙ c.self.view_is

pub invariant_of-self : goal.invariant_of-self
invariant_of-self c =
    let e = (goal.at.invariant_of-self c).In-Some in
    small_after c.alter.result c.args.self.now c.alter.new.self (edit_at c.args.edit.now (marked_by c.args.number (get c.args.self.now) c.args.path.now) c.args.path.now)
    (subst (λ m. OnOk c.alter.result ((q : Path) → get c.alter.new.self q ≡ edit_at c.args.edit.now (marked_by c.args.number (get m) c.args.path.now) c.args.path.now q)) (same e) c.alter.ensures.ok)
    (subst (λ m. OnErr c.alter.result (c.alter.new.self ≡ m)) (same e) c.alter.ensures.err)
    (subst IsSmallTree c.self.view_is c.self.invariant) c.requires.shape c.requires.nodes

pub returns-in-Some-clause-ok : goal.returns-in-Some-clause-ok
returns-in-Some-clause-ok c =
    subst (λ m. OnOk c.alter.result ((q : Path) → get c.alter.new.self q ≡ edit_at c.args.edit.now (marked_by c.args.number (get m) c.args.path.now) c.args.path.now q)) (same (goal.at.returns-in-Some-clause-ok c).In-Some) c.alter.ensures.ok

pub invariant_of-self-2 : goal.invariant_of-self-2
invariant_of-self-2 c =
    small_of (arc_value c.in_ok-self-inside.field-0) (edit_at c.args.edit.now (marked_by c.args.number (get c.args.self.now) c.args.path.now) c.args.path.now)
    (λ q.
    ap (λ m. get m q) c.in_ok-self-inside.ensures.ok
    ∙ c.in_ok-alter.ensures.ok q
    ∙ ap (λ m. edit_at c.args.edit.now (marked_by c.args.number (get m) c.args.path.now) c.args.path.now q) (c.in_ok-root.ensures ∙ c.deref.ensures ∙ c.self.view_is))
    c.requires.shape c.requires.nodes

pub returns-clause-ok : goal.returns-clause-ok
returns-clause-ok c = λ q.
    ap (λ m. get m q) c.in_ok-self-inside.ensures.ok
    ∙ c.in_ok-alter.ensures.ok q
    ∙ ap (λ m. edit_at c.args.edit.now (marked_by c.args.number (get m) c.args.path.now) c.args.path.now q) (c.in_ok-root.ensures ∙ c.deref.ensures ∙ c.self.view_is)
