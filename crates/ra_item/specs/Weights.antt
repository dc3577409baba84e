-- How much items are.
use Rattle.std.specs.Prelude.{ℕ, ◌+◌, List, [], ◌∷◌, length}
use Rattle.ra_item.specs.Items.{Item, row, spell_all}

-- how many bytes the items are written with
abbrev pub weigh : List Item → ℕ
weigh line = length (spell_all (row line))

-- the same of the items of several lists
abbrev pub weigh_all : List (List Item) → ℕ
weigh_all [] = 0
weigh_all (line ∷ outer) = weigh line + weigh_all outer
