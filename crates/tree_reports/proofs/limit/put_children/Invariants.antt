use Rattle.std.proofs.Common.{length}
use Rattle.tree_reports.specs.Depths.{within}
use Rattle.tree_reports.specs.Folders.{IsGrafted, in_folder}
use Rattle.tree_reports.proofs.limit.put_children.Given as goal

abbrev pub invariant-loop-children : goal.invariant-loop-children
invariant-loop-children l = IsGrafted l.tree l.folder (within l.depth (in_folder l.tree l.folder)) l.initial.top l.top l.children

abbrev pub decreases-loop-children : goal.decreases-loop-children
decreases-loop-children l = length l.children
