use Rattle.std.proofs.Common.{◌∷◌, sym, ap, subst, ◌∙◌, arith}
use Rattle.std.specs.FinMap.{get}
use Rattle.path_tree.proofs.Place.{child_found}
use Rattle.path_tree.proofs.Edits.{first_and_rest, get_in_child, Finds, finds_in_child, finds_nothing}
use Rattle.plain_tree.proofs.branch.Branch.+find.Goals as goal

pub returns-in-Ok : goal.returns-in-Ok
returns-in-Ok t c =
    let cs = c.self.inside.children.items in
    let found = child_found cs c.deref.result.now c.first-item.result c.in-Ok.i c.index-child.result.now c.deref.ensures.value c.self.invariant c.in-Ok.ensures.at c.in-Ok.ensures.present c.index-child.ensures in
    subst (λ p. Finds c.args.self.now p c.find.result) (sym (first_and_rest c.args.path.now c.first-item.result c.first-item.is (omega arith)))
    (finds_in_child c.args.self.now c.index-child.result.now.1 c.first-item.result _ c.find.result
    (λ q. get_in_child c.self.inside.node cs c.self.invariant c.first-item.result c.index-child.result.now.1 found q ∙ ap (λ m. get m (c.first-item.result ∷ q)) c.self.view_is) c.find.ensures)

pub returns-in-Err : goal.returns-in-Err
returns-in-Err t c =
    finds_nothing c.self.inside.node c.self.inside.children.items c.self.invariant c.first-item.result (rw (← c.deref.ensures.value) c.in-Err.ensures.absent) c.args.self.now c.self.view_is _ c.args.path.now
    (first_and_rest c.args.path.now c.first-item.result c.first-item.is (omega arith))
