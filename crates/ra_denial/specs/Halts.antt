-- Whether the port refused a command by itself.
use Rattle.std.specs.Prelude.{ℕ, Bool, is_none, ◌&&◌, Option, Some, None}
use Rattle.ra_serve.specs.declared.fault.PortFault.{PortFault}
use Rattle.ra_denial.specs.declared.denial.Denial.{Denial}

-- it did not
abbrev pub IsCalm : Option PortFault → Type 0
IsCalm None = Unit {0}
IsCalm (Some f) = ⊥

-- how often it did
abbrev pub halts_in : Option PortFault → ℕ
halts_in None = 0
halts_in (Some f) = 1

-- what is asked for is looked at: nothing is denied, and the port refused nothing by itself
abbrev pub is_looked_at : Option PortFault → Option Denial → Bool
is_looked_at halt due = is_none halt && is_none due
