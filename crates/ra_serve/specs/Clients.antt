-- What is taken of a client, said of its items before and after.
use Rattle.std.specs.Prelude.{◌≡◌, ◌≤◌, Option, Result, IfErr}
use Rattle.byte_streams.specs.Causes.{Fails}
use Rattle.byte_streams.specs.declared.input.Input.{Ghosts}
use Rattle.ra_item.specs.Items.{Item}
use Rattle.ra_item.specs.ItemStreams.{Answers, meanwhile, reader_of}
use Rattle.ra_item.specs.declared.fault.NextFault.{NextFault}
use Rattle.ra_serve.specs.Outputs.{items_of}
use Rattle.ra_serve.specs.declared.client.ClientItems.{ClientItems}
use Rattle.ra_serve.specs.declared.fault.ServeFault.{ServeFault}
use Rattle.ra_serve.specs.declared.fault.ServeFault.TheVariants.{ReadFailed}

-- the reader failed meanwhile, or was read too often
abbrev pub ReaderFails : {R O : Type 0} {g : Ghosts R} → ClientItems R O g → ClientItems R O g → Type 0
ReaderFails {R} {O} {g} old new = Fails (meanwhile g.failures g.reads (items_of old) (items_of new))

-- a failure of the reader is told only where it failed
abbrev pub TellsReader : {R O T : Type 0} {g : Ghosts R} → ClientItems R O g → ClientItems R O g → Result T ServeFault → Type 0
TellsReader old new result = IfErr result (λ f. f ≡ ReadFailed → ReaderFails old new)

-- none is told
abbrev pub NotTheReader : {T : Type 0} → Result T ServeFault → Type 0
NotTheReader result = IfErr result (λ f. f ≡ ReadFailed → ⊥)

-- the count of the reader's failures doesn't fall
abbrev pub CountsOn : {R O : Type 0} {g : Ghosts R} → ClientItems R O g → ClientItems R O g → Type 0
CountsOn {R} {O} {g} old new = g.failures (reader_of (items_of old)) ≤ g.failures (reader_of (items_of new))

-- the next item was taken, or the stream ended or was refused
abbrev pub TakesNext : {R O : Type 0} {g : Ghosts R} → ClientItems R O g → ClientItems R O g → Result (Option Item) NextFault → Type 0
TakesNext {R} {O} {g} old new result = Answers g.remaining g.failures g.reads (items_of old) (items_of new) result
