-- How far a walk over a set has come.
use Rattle.std.specs.Prelude.{◌≡◌, ℕ, List, take, drop}
use Rattle.std.specs.FinMap as finite
use Rattle.node_base.specs.Path.{Path}
use Rattle.node_base.specs.Tree.{PathMap}
use Rattle.dump_load.specs.declared.change.Change.{Change}
use Rattle.dump_load.specs.Effect.{effect}
use Rattle.dump_load.specs.Faults.{fault_after, fault}

-- the tree has the effect of the first i changes, and none of these is faulty
pub record Walked (trees : List PathMap) (set : List Change) (i : ℕ) (tree : PathMap) : Type 0 where
  pub is : (q : Path) → finite.get tree q ≡ effect trees (take i set) q
  pub faults : fault trees set ≡ fault_after trees (take i set) (drop i set)
