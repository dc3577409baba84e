-- Parts of a command's bytes, and a command that a writer is given.
use Rattle.std.specs.Prelude.{ℕ, List, [], ◌∷◌, ◌++◌, map, Result}
use Rattle.std.specs.declared.io.Write.{Ghosts}
use Rattle.ra_item.specs.Items.{Item, Text, row, spell_all}
use Rattle.ra_item.specs.Writing.{WritesItem}
use Rattle.ra_edit.specs.Commands.{command, token, chunk}
use Rattle.ra_edit.specs.Names.{word_of}
use Rattle.ra_edit.specs.declared.name.Name.{Name}
use Rattle.svndiff.specs.Spelling.{window}

-- what stands in front of a command's parameters, and behind them
abbrev pub before_params : List ℕ → List ℕ
before_params name = 40 ∷ 32 ∷ (name ++ 32 ∷ 40 ∷ 32 ∷ [])

abbrev pub behind_params : List ℕ
behind_params = 41 ∷ 32 ∷ 41 ∷ 32 ∷ []

-- windows of parts of a text, each in a chunk of its own
abbrev pub chunks : ℕ → List (List ℕ) → List ℕ
chunks file parts = spell_all (row (map (λ part. chunk (Text (token file)) (window part)) parts))

-- where it answers Ok, a command of this name is behind what the writer had, with these parameters
abbrev pub WritesCommand : {W T E : Type 0} → Ghosts W → W → W → Name → List Item → Result T E → Type 0
WritesCommand G old new name params result = WritesItem G old new (command (word_of name) params) result
