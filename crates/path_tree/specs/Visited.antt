-- What a visitor is shown of a tree.
use Rattle.std.specs.Prelude.{ℕ, List, ◌++◌, map}
use Rattle.node_base.specs.Path.{Path}
use Rattle.node_base.specs.PathText.{slashed}
use Rattle.node_base.specs.declared.node.Node.{Node}

-- nodes with their paths' texts, each name behind a slash, behind another text
abbrev pub texts : List ℕ → List (Path × Node) → List (List ℕ × Node)
texts above es = map (λ e. (above ++ slashed e.0, e.1)) es
