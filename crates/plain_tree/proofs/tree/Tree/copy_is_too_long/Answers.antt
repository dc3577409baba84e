use Rattle.std.proofs.Common.{sym, ap, ◌∙◌}
use Rattle.path_tree.specs.Copies.{copy_too_long}
use Rattle.path_tree.proofs.Copies.{copy_by_rest, copy_of_nothing}
use Rattle.plain_tree.proofs.tree.Tree.copy_is_too_long.Goals as goal

pub returns-in-Some : goal.returns-in-Some
returns-in-Some c =
    c.exceeds_behind.ensures
    ∙ copy_by_rest c.self.inside.root c.args.source.now c.args.to.now c.in-Some.branch.now c.in-Some.ensures
    ∙ ap (λ m. copy_too_long m c.args.source.now c.args.to.now) c.self.view_is

pub returns-in-None : goal.returns-in-None
returns-in-None c =
    sym (copy_of_nothing c.self.inside.root c.args.source.now c.args.to.now c.in-None.ensures)
    ∙ ap (λ m. copy_too_long m c.args.source.now c.args.to.now) c.self.view_is
