use Rattle.std.proofs.Common.{[], ◌∷◌, sym, ap, ◌∙◌}
use Rattle.std.specs.FinMap.{get}
use Rattle.node_base.specs.Path.{Name}
use Rattle.path_tree.specs.InOrder.{to_come, tops}
use Rattle.path_tree.proofs.Tops.{first_comes}
use Rattle.path_tree.proofs.children.Children.next.Goals as goal

pub returns-in_ok-let_come-in-Some : goal.returns-in_ok-let_come-in-Some
returns-in_ok-let_come-in-Some c =
    let old = c.self.inside.waiting.items in
    let mid = c.pop.new.self.items in
    let new = c.let_come.new.waiting.items in
    let x = c.node.result.now in
    sym c.self.view_is
    ∙ first_comes old mid new c.in-Some.field-0 x c.in-Some.ensures.items (ap (λ m. get m []) (sym c.branch-child.ensures) ∙ c.node.ensures) c.in_ok-let_come-in-Some.ensures
    ∙ ap (λ (n : Name). (n, x) ∷ tops (to_come new)) (sym c.name.ensures)
