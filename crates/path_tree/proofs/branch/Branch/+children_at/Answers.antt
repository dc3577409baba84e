use Rattle.std.proofs.Common.{◌≡◌, [], MatchOption, subst, arith}
use Rattle.path_tree.specs.InOrder.{tops}
use Rattle.path_tree.specs.Rows.{in_row}
use Rattle.path_tree.proofs.Edits.{first_and_rest, no_path}
use Rattle.path_tree.proofs.Tops.{children_here, children_in_child, children_in_none}
use Rattle.path_tree.proofs.branch.Branch.+children_at.Goals as goal

pub returns-in-empty : goal.returns-in-empty
returns-in-empty t c = children_here c.self.inside.node (in_row c.self.inside.children) c.self.invariant c.args.self.now c.self.view_is c.args.path.now (no_path c.args.path.now c.in-empty.len_below)

pub returns-in-Some : goal.returns-in-Some
returns-in-Some t c =
    let x = c.first-item.result in
    subst (λ z. MatchOption c.children_at.result (z ≡ []) (λ r. tops (in_row r.now) ≡ z))
    (children_in_child c.self.inside.node (in_row c.self.inside.children) c.self.invariant c.args.self.now c.self.view_is c.args.path.now x _ c.in-Some.child.now (first_and_rest c.args.path.now x c.first-item.is (omega arith)) c.in-Some.ensures)
    c.children_at.ensures

pub returns-in-None : goal.returns-in-None
returns-in-None t c =
    let x = c.first-item.result in
    children_in_none c.self.inside.node (in_row c.self.inside.children) c.self.invariant c.args.self.now c.self.view_is c.args.path.now x _ (first_and_rest c.args.path.now x c.first-item.is (omega arith)) c.in-None.ensures
