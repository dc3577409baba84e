use Rattle.std.proofs.Common.{◌≡◌, ◌∷◌, ◌++◌, sym, ap, ◌∙◌}
use Rattle.path_tree.specs.Rows.{in_row}
use Rattle.path_tree.proofs.Edits.{on_ok}
use Rattle.path_tree.proofs.Tops.{row_comes}
use Rattle.path_tree.proofs.row.+let_come.Goals as goal

pub returns-in_ok-push-in-Some : goal.returns-in_ok-push-in-Some
returns-in_ok-push-in-Some t c =
    let w = c.twig.inside in
    let is : in_row w.before ++ w.child ∷ in_row w.behind ≡ in_row c.args.row.now = c.twig.view_is ∙ c.deref-twig.ensures ∙ ap in_row (sym c.in-Some.is) in
    on_ok c.let_come.result _ _ (λ h. row_comes c.args.waiting.now.items c.push.new.self.items c.let_come.new.waiting.items _ (in_row w.before) _ is c.in_ok-push-in-Some.ensures.items h) c.let_come.ensures
