-- The refusal that each fault is.
use Rattle.node_base.specs.declared.fault.PathFault.{PathFault}
use Rattle.node_base.specs.declared.fault.PathFault.TheVariants as path
use Rattle.node_base.specs.declared.fault.TreeFault.{TreeFault}
use Rattle.node_base.specs.declared.fault.TreeFault.TheVariants as tree
use Rattle.node_base.specs.declared.prop_fault.PropFault.{PropFault}
use Rattle.node_base.specs.declared.prop_fault.PropFault.TheVariants as prop
use Rattle.node_base.specs.declared.text_fault.TextFault.{TextFault}
use Rattle.node_base.specs.declared.text_fault.TextFault.TheVariants as text
use Rattle.node_base.specs.declared.refusal.Refusal.{Refusal}
use Rattle.node_base.specs.declared.refusal.Refusal.TheVariants.{BadProps, TooLong, BadPath, NoSuchPath, PathThere, NotDir, NoSource, KindMismatch, OutOfMemory}

abbrev pub path_refusal : PathFault → Refusal
path_refusal path.TooLong = TooLong
path_refusal path.BadPath = BadPath
path_refusal path.OutOfMemory = OutOfMemory

abbrev pub prop_refusal : PropFault → Refusal
prop_refusal prop.BadProps = BadProps
prop_refusal prop.TooLong = TooLong
prop_refusal prop.OutOfMemory = OutOfMemory

abbrev pub text_refusal : TextFault → Refusal
text_refusal text.TooLong = TooLong
text_refusal text.OutOfMemory = OutOfMemory

abbrev pub tree_refusal : TreeFault → Refusal
tree_refusal tree.TooLong = TooLong
tree_refusal tree.BadPath = BadPath
tree_refusal tree.NoSuchPath = NoSuchPath
tree_refusal tree.PathThere = PathThere
tree_refusal tree.NotDir = NotDir
tree_refusal tree.NoSource = NoSource
tree_refusal tree.KindMismatch = KindMismatch
