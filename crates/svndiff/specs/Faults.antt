-- The numbers of the refusals.
use Rattle.std.specs.Prelude.{ℕ}
use Rattle.svndiff.specs.declared.fault.WindowFault.{WindowFault}
use Rattle.svndiff.specs.declared.fault.WindowFault.TheVariants.{BadWindow, CopyWindow, TooLong, Failed}

abbrev pub fault_number : WindowFault → ℕ
fault_number TooLong = 8
fault_number Failed = 32
fault_number BadWindow = 44
fault_number CopyWindow = 45
