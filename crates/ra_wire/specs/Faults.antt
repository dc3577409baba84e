-- The numbers of the refusals.
use Rattle.std.specs.Prelude.{ℕ}
use Rattle.ra_wire.specs.declared.fault.WireFault.{WireFault}
use Rattle.ra_wire.specs.declared.fault.WireFault.TheVariants as fault

abbrev pub number_of_fault : WireFault → ℕ
number_of_fault fault.ReplayForm = 43
number_of_fault fault.UnknownCommand = 47
number_of_fault fault.BadShape = 48
number_of_fault fault.OutOfMemory = 70
