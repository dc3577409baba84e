-- The one spelling of property blocks that is written.
use Rattle.std.specs.Prelude.{ℕ, List, [], ◌∷◌, ◌++◌, length}
use Rattle.std.specs.List.{flat_map}
use Rattle.std.specs.FinMap as map
use Rattle.std.specs.Fmt.{decimal}
use Rattle.node_base.specs.Path.{Name}
use Rattle.node_base.specs.Props.{PropMap}
use Rattle.node_base.specs.BlockGrammar.{property, block_end}

-- a letter with its blank and the count of some bytes, and the bytes, each line with its LF
abbrev pub counted : List ℕ → List ℕ → List ℕ
counted letter bytes = letter ++ (decimal (length bytes) ++ 10 ∷ (bytes ++ 10 ∷ []))

-- counts without leading zeros
abbrev pub canon_property : Name × List ℕ → List ℕ
canon_property p = property (decimal (length p.0)) p.0 (decimal (length p.1)) p.1

-- the properties in the byte order of their names
abbrev pub canon_block : PropMap → List ℕ
canon_block props = flat_map canon_property (map.entries props) ++ block_end
