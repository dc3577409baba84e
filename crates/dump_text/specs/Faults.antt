-- The refusals of dump text.
use Rattle.std.specs.Prelude.{ℕ}
use Rattle.node_base.specs.Refusals.{refusal_number}
use Rattle.node_base.specs.declared.refusal.Refusal.{Refusal}
use Rattle.node_base.specs.declared.refusal.Refusal.TheVariants as refusal
use Rattle.dump_text.specs.declared.fault.DumpFault.{DumpFault}
use Rattle.dump_text.specs.declared.fault.DumpFault.TheVariants as dump

-- the refusal of the table that a fault is
abbrev pub dump_refusal : DumpFault → Refusal
dump_refusal dump.BadVersion = refusal.BadVersion
dump_refusal dump.BadHeader = refusal.BadHeader
dump_refusal dump.BadNumber = refusal.BadNumber
dump_refusal dump.BadLength = refusal.BadLength
dump_refusal dump.BadProps = refusal.BadProps
dump_refusal dump.BadSum = refusal.BadSum
dump_refusal dump.Truncated = refusal.Truncated
dump_refusal dump.TooLong = refusal.TooLong
dump_refusal dump.TextDelta = refusal.TextDelta
dump_refusal dump.BadPath = refusal.BadPath
dump_refusal dump.Failed = refusal.Failed
dump_refusal dump.OutOfMemory = refusal.OutOfMemory

-- its number
abbrev pub number_of_fault : DumpFault → ℕ
number_of_fault f = refusal_number (dump_refusal f)
