-- What a port is asked or told, as a list since some first state of it.
use Rattle.std.specs.Prelude.{List, ◌++◌}

-- whatever was asked or told since a first state, that is so now with these more at its end
abbrev pub Adds : {P X : Type 0} → (P → P → List X → Type 0) → P → P → List X → Type 0
Adds {P} {X} Since old new more = (first : P) (made : List X) → Since old first made → Since new first (made ++ more)
