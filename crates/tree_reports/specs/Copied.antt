-- The numbers above a path, which a graft there changes.
use Rattle.std.specs.Prelude.{ℕ, Bool, true, false, [], ◌∷◌, Option}
use Rattle.std.specs.Option.{option_map, option_map_or}
use Rattle.node_base.specs.Path.{Path, rest_after}
use Rattle.node_base.specs.Tree.{numbered}
use Rattle.node_base.specs.declared.node.Node.{Node}

-- the number of a node, where one is
abbrev pub number_in : Option Node → ℕ
number_in o = option_map_or (λ x. x.changed) o 0

abbrev pub is_more : Path → Bool
is_more [] = false
is_more (n ∷ r) = true

-- whether a path is a proper front of another
abbrev pub is_above : Path → Path → Bool
is_above q p = option_map_or is_more (rest_after q p) false

-- what is above the path has the numbers that it had before
abbrev pub marked_back : (Path → Option Node) → Path → (Path → Option Node) → Path → Option Node
marked_back before p f q = option_map (numbered (number_in (before q)) (is_above q p)) (f q)
