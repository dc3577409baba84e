-- What a map of nodes must be to be a tree.
use Rattle.std.specs.Prelude.{◌≡◌, true, [], Option, IsSome}
use Rattle.node_base.specs.Path.{Path}
use Rattle.node_base.specs.Limits.{fits}
use Rattle.node_base.specs.declared.node.Node.{Node}
use Rattle.node_base.specs.Tree.{IsDirAt, HasFronts}

-- the root is a directory, and so is each proper front of a path that is there; each path is within the limits
pub record IsShape (f : Path → Option Node) : Type 0 where
  pub root : IsDirAt f []
  pub fronts : HasFronts f
  pub small : (p : Path) → IsSome (f p) → fits p ≡ true
