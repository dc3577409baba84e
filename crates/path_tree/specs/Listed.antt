-- Listings: every path with its node.
use Rattle.std.specs.Prelude.{List, map}
use Rattle.std.specs.Borrow.{Bor}
use Rattle.node_base.specs.Path.{Name, Path}
use Rattle.node_base.specs.declared.node.Node.{Node}
use Rattle.path_tree.specs.declared.listing.Entry.{Entry}

-- names without where they lie in memory
abbrev pub shown_names : List (Bor Name) → Path
shown_names = map (λ n. n.now)

-- entries without where they lie in memory
abbrev pub shown : List Entry → List (Path × Node)
shown = map (λ e. (shown_names e.path.items, e.node.now))
