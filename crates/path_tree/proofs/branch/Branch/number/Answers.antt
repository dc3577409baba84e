use Rattle.std.proofs.Common.{◌≡◌, [], sym, ap, subst, ◌∙◌}
use Rattle.std.specs.FinMap.{get}
use Rattle.node_base.specs.Path.{Path}
use Rattle.path_tree.specs.Edits.{marked_by}
use Rattle.path_tree.specs.Joined.{joined}
use Rattle.path_tree.specs.Rows.{in_row}
use Rattle.path_tree.proofs.Alters.{numbered_top}
use Rattle.path_tree.proofs.branch.Branch.number.Goals as goal

pub returns : goal.returns
returns c =
    subst (λ n. (q : Path) → get (joined n (in_row c.self.inside.children)) q ≡ marked_by c.args.number (get c.args.self.now) [] q) (sym c.renumber.ensures)
    (λ q. numbered_top c.args.number c.self.inside.node (in_row c.self.inside.children) c.self.invariant q ∙ ap (λ m. marked_by c.args.number (get m) [] q) c.self.view_is)
