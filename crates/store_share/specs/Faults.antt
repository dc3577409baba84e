-- The refusals that a row's faults are.
use Rattle.std.specs.Prelude.{ℕ}
use Rattle.node_base.specs.declared.refusal.Refusal.{Refusal}
use Rattle.node_base.specs.declared.refusal.Refusal.TheVariants as refusal
use Rattle.store_share.specs.declared.fault.RowFault.{RowFault}
use Rattle.store_share.specs.declared.fault.RowFault.TheVariants.{Failed, OutOfMemory}

abbrev pub row_refusal : RowFault → Refusal
row_refusal Failed = refusal.Failed
row_refusal OutOfMemory = refusal.OutOfMemory

-- its number in the table of refusals
abbrev pub number_of : RowFault → ℕ
number_of Failed = 32
number_of OutOfMemory = 70
