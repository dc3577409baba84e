-- Why a text that is given as a delta isn't made.
use Rattle.std.specs.Prelude.{ℕ}
use Rattle.node_base.specs.Refusals.{refusal_number}
use Rattle.node_base.specs.declared.refusal.Refusal.{Refusal}
use Rattle.node_base.specs.declared.refusal.Refusal.TheVariants as table
use Rattle.svndiff.specs.declared.delta_fault.DeltaFault.{DeltaFault}
use Rattle.svndiff.specs.declared.delta_fault.DeltaFault.TheVariants as delta
use Rattle.whole_texts.specs.declared.refusal.TextRefusal.{TextRefusal}
use Rattle.whole_texts.specs.declared.refusal.TextRefusal.TheVariants as refusal

-- what is said of a refusal; of want of memory nothing
abbrev pub UnlessMemory : (TextRefusal → Type 0) → TextRefusal → Type 0
UnlessMemory Why refusal.OutOfMemory = Unit {0}
UnlessMemory Why e = Why e

-- the refusal that a delta's fault becomes
abbrev pub of_delta : DeltaFault → TextRefusal
of_delta delta.TooLong = refusal.TooLong
of_delta delta.Failed = refusal.BadWindow
of_delta delta.BadWindow = refusal.BadWindow
of_delta delta.OutOfMemory = refusal.OutOfMemory

-- the refusal of the table that it is
abbrev pub text_refusal : TextRefusal → Refusal
text_refusal refusal.BadSum = table.BadSum
text_refusal refusal.TooLong = table.TooLong
text_refusal refusal.NoSuchPath = table.NoSuchPath
text_refusal refusal.NoSource = table.NoSource
text_refusal refusal.KindMismatch = table.KindMismatch
text_refusal refusal.BadWindow = table.BadWindow
text_refusal refusal.OutOfMemory = table.OutOfMemory

-- its number
abbrev pub number_of : TextRefusal → ℕ
number_of e = refusal_number (text_refusal e)
