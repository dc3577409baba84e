use Rattle.std.proofs.Common.{[], refl}
use Rattle.node_base.specs.Path.{same_path}
use Rattle.node_base.specs.NodeEdits.{with_prop}
use Rattle.path_tree.specs.Rows.{in_row}
use Rattle.path_tree.proofs.Edits.{edits_as, edited_here}
use Rattle.path_tree.proofs.branch.Branch.put_prop.Goals as goal

pub returns-clause-ok : goal.returns-clause-ok
returns-clause-ok c =
    let change = with_prop c.args.name.now c.args.value.now in
    edits_as _ _ c.args.self.now (same_path []) (same_path []) change c.self.view_is (λ q. refl)
    (rw (c.in-Ok.ensures.ok, c.in_ok-name.ensures, c.in_ok-value.ensures) (edited_here c.self.inside.node (same_path []) change (in_row c.self.inside.children) c.self.invariant (λ y q. refl)))
