use Rattle.std.proofs.Common.{ap, sym, ◌∙◌, [], ◌++◌, append-nil}
use Rattle.std.specs.FinMap.{get}
use Rattle.plain_tree.proofs.tree.Tree.get.Goals as goal

pub returns-in-None : goal.returns-in-None
returns-in-None c = sym (ap (get c.args.self.now) (sym (append-nil c.args.path.now)) ∙ ap (λ m. get m (c.args.path.now ++ [])) (sym c.self.view_is) ∙ c.in-None.ensures [])
