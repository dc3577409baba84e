use Rattle.std.proofs.Common.{◌≡◌, take}
use Rattle.path_tree.specs.Listed.{shown_names}
use Rattle.tree_reports.proofs.tell.is_below_gone.Given as goal

abbrev pub invariant-loop-name : goal.invariant-loop-name
invariant-loop-name l = l.names.items ≡ shown_names (take l.name-index l.path)
