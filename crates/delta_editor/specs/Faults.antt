-- Why an editor refuses a call, as numbers and as faults of a place in a tree.
use Rattle.std.specs.Prelude.{ℕ}
use Rattle.node_base.specs.declared.fault.TreeFault.{TreeFault}
use Rattle.node_base.specs.declared.fault.TreeFault.TheVariants.{TooLong, BadPath, NoSuchPath, PathThere, NotDir, NoSource, KindMismatch}
use Rattle.delta_editor.specs.declared.fault.EditorFault.{EditorFault}
use Rattle.delta_editor.specs.declared.fault.EditorFault.TheVariants as refusal

-- the refusal that a fault of a place in a tree is
abbrev pub refused : TreeFault → EditorFault
refused TooLong = refusal.TooLong
refused BadPath = refusal.BadPath
refused NoSuchPath = refusal.NoSuchPath
refused PathThere = refusal.PathThere
refused NotDir = refusal.NotDir
refused NoSource = refusal.NoSource
refused KindMismatch = refusal.KindMismatch

-- the number of a refusal
abbrev pub number_of : EditorFault → ℕ
number_of refusal.TooLong = 8
number_of refusal.BadPath = 10
number_of refusal.NoSuchPath = 11
number_of refusal.PathThere = 12
number_of refusal.NotDir = 13
number_of refusal.NoSource = 14
number_of refusal.OutOfOrder = 15
number_of refusal.WrongNumber = 16
number_of refusal.KindMismatch = 17
number_of refusal.PeerFailed = 49
number_of refusal.OutOfMemory = 70
