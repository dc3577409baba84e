use Rattle.std.proofs.Common.{◌++◌, map, List}
use Rattle.std.specs.FinMap.{get}
use Rattle.node_base.specs.Tree.{PathMap}
use Rattle.dump_load.specs.Changes.{IsNormal}
use Rattle.editor_ends.specs.Built.{Keeps, IsLean, filled}
use Rattle.editor_ends.proofs.finish.finish.Given as goal

abbrev pub invariant-loop-change : goal.invariant-loop-change
invariant-loop-change l = ((trees : List PathMap) → IsNormal (map (filled (get l.tree)) l.fn.changes.items) → Keeps trees (map (filled (get l.tree)) l.fn.changes.items) (l.kept.items ++ map (filled (get l.tree)) l.change-iterator.rest.items)) × (IsNormal (map (filled (get l.tree)) l.fn.changes.items) → IsLean l.kept.items)
