use Rattle.std.proofs.Common.{[], refl}
use Rattle.node_base.specs.Path.{same_path}
use Rattle.node_base.specs.Tree.{with_given}
use Rattle.path_tree.specs.Rows.{in_row}
use Rattle.path_tree.proofs.Edits.{edits_as, edited_here}
use Rattle.path_tree.proofs.branch.Branch.put_parts.Goals as goal

pub returns-clause-ok : goal.returns-clause-ok
returns-clause-ok c =
    let change = with_given c.args.text.now c.args.props.now in
    edits_as _ _ c.args.self.now (same_path []) (same_path []) change c.self.view_is (λ q. refl)
    (rw (c.put_parts.ensures, c.in_ok-text.ensures, c.in_ok-props.ensures) (edited_here c.self.inside.node (same_path []) change (in_row c.self.inside.children) c.self.invariant (λ y q. refl)))
