-- Children in a search tree of shared parts.
use Rattle.std.specs.Prelude.{◌≡◌, ℕ, ◌+◌, ◌*◌, ◌≤◌, Bool, not, List, [], ◌∷◌, ◌++◌, length, Option, Some, None}
use Rattle.std.specs.Arc.{arc_value}
use Rattle.std.specs.declared.sync.Arc.{Arc}
use Rattle.std.specs.Coded.{Coded, coded_list, coded×}
use Rattle.std.specs.FinMap.{len}
use Rattle.node_base.specs.Path.{Name, coded_name, same_name}
use Rattle.node_base.specs.Tree.{PathMap, coded_tree}
use Rattle.path_tree.specs.declared.reach.Reach.{Reach}
use Rattle.path_tree.specs.Heads.{IsHeaded}
use Rattle.path_tree.specs.Joined.{below}
use Rattle.path_tree.specs.Reach.{reach_of, reach_to}

-- children with their names
abbrev pub Children : Type 0
Children = List (Name × PathMap)

abbrev pub coded_children : Coded Children
coded_children = coded_list (coded× coded_name coded_tree)

-- the children of a row, in order
abbrev pub in_row : {A X : Type 0} → Option (Arc (List X) A) → List X
in_row None = []
in_row (Some t) = arc_value t

-- whether a name is another than x
abbrev pub differs : Name → Name → Bool
differs x k = not (same_name x k)

-- a child has its root at least, and its head and its reach are these
pub record IsChild (h : ℕ) (r : Reach) (c : Name × PathMap) : Type 0 where
  pub headed : IsHeaded h c.0
  pub reach : r ≡ reach_to c
  pub rooted : 1 ≤ len c.1

-- a child has its root at least, and the reach is that of the paths to the children and below them
pub record IsTwig (before : Children) (child : Name × PathMap) (behind : Children) (r : Reach) : Type 0 where
  pub rooted : 1 ≤ len child.1
  pub reach : r ≡ reach_of (before ++ child ∷ behind)

-- more than a child's branch, more than each child of a row, and less than the branch that has the row
abbrev pub entry_size : Name × PathMap → ℕ
entry_size c = 3 * len c.1 + 1

abbrev pub row_size : Children → ℕ
row_size cs = 3 * length (below cs) + 2

abbrev pub branch_size : PathMap → ℕ
branch_size m = 3 * len m
