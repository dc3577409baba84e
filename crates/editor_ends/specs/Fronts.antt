-- Fronts of paths.
use Rattle.std.specs.Prelude.{List, [], ◌∷◌, ◌++◌}
use Rattle.node_base.specs.Path.{Path}

-- the path without its last name
abbrev pub above : Path → Path
above [] = []
above (n ∷ []) = []
above (n ∷ m ∷ p) = n ∷ above (m ∷ p)

-- the fronts of a path that go on from a path, that path not among them, each a name longer than the one before it
abbrev pub fronts_from : Path → Path → List Path
fronts_from d [] = []
fronts_from d (n ∷ p) = (d ++ n ∷ []) ∷ fronts_from (d ++ n ∷ []) p

-- the fronts of a path but the root, the path itself the last
abbrev pub fronts : Path → List Path
fronts = fronts_from []
