-- Laws of what clients ask, over all items.
use Rattle.std.specs.Prelude.{◌≡◌, Err}
use Rattle.ra_item.specs.Items.{Item}
use Rattle.browse_wire.specs.Depths.{unless_excluded}
use Rattle.browse_wire.specs.Asks.{Ask, Forms, IsUnknown, depth_of}
use Rattle.browse_wire.specs.AskReading.{ask_in}
use Rattle.browse_wire.specs.declared.depth.DepthWord.TheVariants as depth
use Rattle.browse_wire.specs.declared.fault.BrowseFault.TheVariants as fault

-- an item that the table has for a command is read as that command, but for one with the depth `exclude`
abbrev pub AsksAreRead : Type 0
AsksAreRead = (a : Ask) (item : Item) → Forms a item → ask_in item ≡ unless_excluded (depth_of a) a

-- an item is one command at most
abbrev pub OneAsk : Type 0
OneAsk = (a b : Ask) (item : Item) → Forms a item → Forms b item → (depth_of a ≡ depth.Excluded → ⊥) → a ≡ b

-- a command of another name is refused as such, whatever its parameters are
abbrev pub UnknownIsTold : Type 0
UnknownIsTold = (item : Item) → IsUnknown item → ask_in item ≡ Err fault.UnknownCommand
