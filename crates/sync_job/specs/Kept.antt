-- How refusals are kept, and which calls write.
use Rattle.sync_core.specs.declared.fault.SyncFault.{SyncFault}
use Rattle.sync_core.specs.Copies.{Outcome, Refused, number_in}
use Rattle.sync_core.specs.Faults.{fault_text}
use Rattle.sync_core.specs.Mirror.{Call, Look}

-- a refusal as it is kept: its number and its text
abbrev pub refused_as : SyncFault → Outcome
refused_as f = Refused (number_in f) (fault_text f)

-- a look, and any other call
abbrev pub IsLook : Call → Type 0
IsLook Look = Unit {0}
IsLook _ = ⊥

abbrev pub IsWrite : Call → Type 0
IsWrite Look = ⊥
IsWrite _ = Unit {0}
