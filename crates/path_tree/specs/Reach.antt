-- How far paths reach: the most names and the most bytes.
use Rattle.std.specs.Prelude.{ℕ, ◌+◌, Bool, ◌||◌, nat_lt, min, max, List, [], ◌∷◌, length, map}
use Rattle.std.specs.FinMap.{entries}
use Rattle.node_base.specs.Path.{Name, Path}
use Rattle.node_base.specs.Limits.{weight}
use Rattle.node_base.specs.Tree.{PathMap}
use Rattle.node_base.specs.declared.limits.TheConstants.{PATH_BYTES, PATH_NAMES}
use Rattle.path_tree.specs.declared.reach.Reach.{Reach}
use Rattle.path_tree.specs.Joined.{behind, below}

-- the greatest measure of these paths
abbrev pub greatest : (Path → ℕ) → List Path → ℕ
greatest f [] = 0
greatest f (k ∷ ks) = max (f k) (greatest f ks)

-- a count, as far as 16 bits hold it
abbrev pub held : ℕ → ℕ
held n = min n 65535

-- the most names of these paths, and their greatest weight
abbrev pub farthest : List Path → Reach
farthest ks = record { names = held (greatest length ks); bytes = held (greatest weight ks) }

-- of the paths below a node with these children
abbrev pub reach_of : List (Name × PathMap) → Reach
reach_of cs = farthest (map (λ e. e.0) (below cs))

-- of the paths to a child and below it
abbrev pub reach_to : Name × PathMap → Reach
reach_to c = farthest (map (λ e. e.0) (behind c.0 (entries c.1)))

abbrev pub nowhere : Reach
nowhere = record { names = 0; bytes = 0 }

abbrev pub either : Reach → Reach → Reach
either a b = record { names = max a.names b.names; bytes = max a.bytes b.bytes }

abbrev pub behind_name : Name → Reach → Reach
behind_name n r = record { names = held (r.names + 1); bytes = held (r.bytes + (length n + 1)) }

-- whether a path that reaches so far is past 64 names or 1,024 bytes behind so many names of such a weight
abbrev pub past : ℕ → ℕ → Reach → Bool
past names bytes r = nat_lt PATH_NAMES (names + r.names) || nat_lt (PATH_BYTES + 1) (bytes + r.bytes)
