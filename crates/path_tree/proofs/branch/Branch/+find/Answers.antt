use Rattle.std.proofs.Common.{◌∷◌, sym, ap, subst, ◌∙◌, arith}
use Rattle.std.specs.FinMap.{get}
use Rattle.path_tree.specs.Rows.{in_row}
use Rattle.path_tree.proofs.Edits.{first_and_rest, get_in_child, Finds, finds_in_child, finds_nothing}
use Rattle.path_tree.proofs.branch.Branch.+find.Goals as goal

pub returns-in-Some : goal.returns-in-Some
returns-in-Some t c =
    let x = c.first-item.result in
    let k = c.in-Some.child.now in
    subst (λ p. Finds c.args.self.now p c.find.result) (sym (first_and_rest c.args.path.now x c.first-item.is (omega arith)))
    (finds_in_child c.args.self.now k x _ c.find.result (λ q. get_in_child c.self.inside.node (in_row c.self.inside.children) c.self.invariant x k c.in-Some.ensures q ∙ ap (λ m. get m (x ∷ q)) c.self.view_is) c.find.ensures)

pub returns-in-None : goal.returns-in-None
returns-in-None t c =
    finds_nothing c.self.inside.node (in_row c.self.inside.children) c.self.invariant c.first-item.result c.in-None.ensures c.args.self.now c.self.view_is _ c.args.path.now
    (first_and_rest c.args.path.now c.first-item.result c.first-item.is (omega arith))
