-- What the type of a tree keeps of its paths and of its nodes.
use Rattle.std.specs.Prelude.{◌≡◌, ◌≤◌, true, length, Option, IsSome, IfSome}
use Rattle.std.specs.FinMap as map
use Rattle.node_base.specs.Path.{Path}
use Rattle.node_base.specs.PathText.{is_path}
use Rattle.node_base.specs.Props.{IsProps}
use Rattle.node_base.specs.Tree.{PathMap, IsTree}
use Rattle.node_base.specs.declared.node.Node.{Node}
use Rattle.node_base.specs.declared.limits.TheConstants.{TEXT_BYTES}

-- a node within the limits: its properties, and its text where it has one
pub record IsNode (x : Node) : Type 0 where
  pub props : IsProps x.props
  pub text : IfSome x.text (λ t. length t ≤ TEXT_BYTES)

-- each path that is there is one by the rule and within the limits, and so is its node
pub record HasNodes (f : Path → Option Node) : Type 0 where
  pub paths : (p : Path) → IsSome (f p) → is_path p ≡ true
  pub nodes : (p : Path) → IfSome (f p) IsNode

-- a tree of such paths and nodes
pub record IsSmallTree (m : PathMap) : Type 0 where
  pub tree : IsTree m
  pub kept : HasNodes (map.get m)
