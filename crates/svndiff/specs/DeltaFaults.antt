-- The numbers of the refusals of a delta.
use Rattle.std.specs.Prelude.{ℕ}
use Rattle.svndiff.specs.declared.delta_fault.DeltaFault.{DeltaFault}
use Rattle.svndiff.specs.declared.delta_fault.DeltaFault.TheVariants.{TooLong, Failed, BadWindow, OutOfMemory}

abbrev pub delta_number : DeltaFault → ℕ
delta_number TooLong = 8
delta_number Failed = 32
delta_number BadWindow = 44
delta_number OutOfMemory = 70
