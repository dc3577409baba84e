use Rattle.std.proofs.Common.{◌++◌, ◌∙◌}
use Rattle.std.specs.FinMap.{entries}
use Rattle.path_tree.specs.Joined.{under}
use Rattle.path_tree.specs.Listed.{shown, shown_names}
use Rattle.path_tree.proofs.Entries.{under_root}
use Rattle.plain_tree.proofs.tree.Tree.list.Goals as goal

pub returns : goal.returns
returns c =
    c.in_ok-list_into.ensures.listed
    ∙ (λ i. shown (c.new-out.ensures.items i) ++ under (shown_names (c.new-above.ensures.items i)) (entries (c.self.view_is i)))
    ∙ under_root (entries c.args.self.now)
