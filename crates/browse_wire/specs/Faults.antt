-- What is refused.
use Rattle.std.specs.Prelude.{◌≡◌, Option, None, Result, Ok, Err}
use Rattle.ra_wire.specs.declared.fault.WireFault.{WireFault}
use Rattle.ra_wire.specs.declared.fault.WireFault.TheVariants as wire
use Rattle.browse_wire.specs.declared.fault.BrowseFault.{BrowseFault}
use Rattle.browse_wire.specs.declared.fault.BrowseFault.TheVariants as fault

abbrev pub of_wire : WireFault → BrowseFault
of_wire wire.ReplayForm = fault.ReplayForm
of_wire wire.UnknownCommand = fault.UnknownCommand
of_wire wire.BadShape = fault.BadShape
of_wire wire.OutOfMemory = fault.OutOfMemory

-- nothing was read: memory ran out, or another thing stands there
abbrev pub Missed : {T : Type 0} → Option T → BrowseFault → Type 0
Missed read fault.OutOfMemory = Unit {0}
Missed read fault.BadShape = read ≡ None
Missed read f = ⊥

-- what a call read is this, unless memory ran out
abbrev pub ReadIs : {A T : Type 0} → (A → T) → Result A BrowseFault → Result T BrowseFault → Type 0
ReadIs view (Ok a) read = read ≡ Ok (view a)
ReadIs view (Err fault.OutOfMemory) read = Unit {0}
ReadIs view (Err f) read = read ≡ Err f
