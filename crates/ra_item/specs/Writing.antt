-- What a writer is given.
use Rattle.std.specs.Prelude.{ℕ, List, OnOk, Result}
use Rattle.std.specs.Io.KnownBytes.{Appends}
use Rattle.std.specs.declared.io.Write.{Ghosts}
use Rattle.ra_item.specs.Items.{Item, row, spell, spell_all}

-- at Ok these bytes are behind what the writer had
abbrev pub Writes : {W T E : Type 0} → Ghosts W → W → W → List ℕ → Result T E → Type 0
Writes G old new bytes result = OnOk result (Appends (G.contents old) (G.contents new) bytes)

-- at Ok an item is
abbrev pub WritesItem : {W T E : Type 0} → Ghosts W → W → W → Item → Result T E → Type 0
WritesItem G old new item result = Writes G old new (spell item) result

-- at Ok these items are, one behind another
abbrev pub WritesItems : {W T E : Type 0} → Ghosts W → W → W → List Item → Result T E → Type 0
WritesItems G old new items result = Writes G old new (spell_all (row items)) result
