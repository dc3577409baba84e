use Rattle.std.proofs.Common.{sym, ap, ◌∙◌}
use Rattle.std.specs.Option.{option_copied}
use Rattle.std.specs.FinMap.{get}
use Rattle.node_base.specs.Tree.{marked, with_given}
use Rattle.path_tree.proofs.Altered.{changed_nothing}
use Rattle.path_tree.proofs.Alters.{none_marked}
use Rattle.path_tree.proofs.Edits.{on_ok}
use Rattle.path_tree.proofs.tree.Tree.put_parts.Goals as goal

pub returns-in_default-clause-ok : goal.returns-in_default-clause-ok
returns-in_default-clause-ok c =
    on_ok c.mark.result _ _
    (λ h q.
    let p = c.args.path.now in
    let none = none_marked (get c.args.self.now) p c.args.number p (sym c.get.ensures ∙ ap option_copied c.in_default.is) in
    h q ∙ changed_nothing (marked (get c.args.self.now) p c.args.number) p (with_given c.args.text c.args.props) none q)
    c.mark.ensures.ok
