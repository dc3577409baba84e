-- What a writer is given.
use Rattle.std.specs.Prelude.{ℕ, List, Result}
use Rattle.std.specs.declared.io.Write.{Ghosts}
use Rattle.ra_item.specs.Items.{Item}
use Rattle.ra_item.specs.Writing.{WritesItem}
use Rattle.ra_wire.specs.Replies.{answer_of}

-- where it answers Ok, an answer or a command of this name is behind what the writer had, with these items in its brackets
abbrev pub WritesNamed : {W T E : Type 0} → Ghosts W → W → W → List ℕ → List Item → Result T E → Type 0
WritesNamed G old new name items result = WritesItem G old new (answer_of name items) result
