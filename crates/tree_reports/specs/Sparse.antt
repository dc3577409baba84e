-- What a sparse working copy has of a tree.
use Rattle.std.specs.Prelude.{List, [], ◌∷◌, ◌++◌, Option, None, is_some, is_none, if◌then◌else◌}
use Rattle.node_base.specs.Path.{Path}
use Rattle.node_base.specs.Tree.{alone, blocked, grafted, new_dir}
use Rattle.node_base.specs.declared.node.Node.{Node}
use Rattle.tree_reports.specs.declared.sparse.Limit.{Limit}
use Rattle.tree_reports.specs.declared.sparse.Part.{Part}
use Rattle.tree_reports.specs.declared.sparse.Part.TheVariants.{Within, LeftOut}
use Rattle.tree_reports.specs.Depths.{within}

-- so much of what stands at a path and below it; a bare folder stands for what is left out, as long as anything stands there
abbrev pub part_of : Part → (Path → Option Node) → Path → Path → Option Node
part_of (Within d) f p = within d (λ r. f (p ++ r))
part_of LeftOut f p = λ r. if is_some (f p) then alone new_dir r else None

-- so much of the whole at the path of a limit, where no file or nothing is above it
abbrev pub with_limit : (Path → Option Node) → (Path → Option Node) → Limit → Path → Option Node
with_limit w f l = if is_none (blocked w l.path) then grafted w l.path (part_of l.part f l.path) else w

abbrev pub with_limits : (Path → Option Node) → (Path → Option Node) → List Limit → Path → Option Node
with_limits w f [] = w
with_limits w f (l ∷ ls) = with_limits (with_limit w f l) f ls
