-- The calls that change a tree: the fault of each, and its effect.
use Rattle.std.specs.Prelude.{◌≡◌, ℕ, Bool, List, [], Option, Some, None, is_some, is_none, Result, Ok, Err, if◌then◌else◌}
use Rattle.std.specs.Option.{option_or, option_map_or}
use Rattle.std.specs.FinMap as map
use Rattle.node_base.specs.Path.{Path, same_path}
use Rattle.node_base.specs.Props.{PropMap}
use Rattle.node_base.specs.declared.node.Node.{Node}
use Rattle.node_base.specs.declared.fault.TreeFault.{TreeFault}
use Rattle.node_base.specs.declared.fault.TreeFault.TheVariants.{TooLong, BadPath, NoSuchPath, PathThere, NotDir, NoSource, KindMismatch}
use Rattle.node_base.specs.Tree.{PathMap, alone, blocked, changed_at, grafted, marked, with_given}
use Rattle.node_base.specs.FaultRefusals.{tree_refusal}
use Rattle.node_base.specs.declared.refusal.Refusal.{Refusal}
use Rattle.node_base.specs.declared.refusal.Refusal.TheVariants as refusal
use Rattle.path_tree.specs.Copies.{copy_too_long}
use Rattle.path_tree.specs.declared.error.TreeError.{TreeError}
use Rattle.path_tree.specs.declared.error.TreeError.TheVariants.{Fault, OutOfMemory}

abbrev pub fault_number : TreeFault → ℕ
fault_number TooLong = 8
fault_number BadPath = 10
fault_number NoSuchPath = 11
fault_number PathThere = 12
fault_number NotDir = 13
fault_number NoSource = 14
fault_number KindMismatch = 17

abbrev pub error_number : TreeError → ℕ
error_number (Fault f) = fault_number f
error_number OutOfMemory = 70

-- the refusal that an error is
abbrev pub error_refusal : TreeError → Refusal
error_refusal (Fault f) = tree_refusal f
error_refusal OutOfMemory = refusal.OutOfMemory

-- a fault is what is answered, and without one a refusal is want of memory
abbrev pub Answers : Option TreeFault → Result (Unit {0}) TreeError → Type 0
Answers (Some f) r = r ≡ Err (Fault f)
Answers None (Ok x) = Unit {0}
Answers None (Err e) = e ≡ OutOfMemory

abbrev pub fault_if : Bool → TreeFault → Option TreeFault
fault_if b f = if b then Some f else None

-- a new path: the root is none, then each proper front is a directory, then nothing is there
abbrev pub add_fault : (Path → Option Node) → Path → Option TreeFault
add_fault f p = option_or (fault_if (same_path p []) BadPath) (option_or (blocked f p) (fault_if (is_some (f p)) PathThere))

-- a path that is there
abbrev pub change_fault : (Path → Option Node) → Path → Option TreeFault
change_fault f p = option_or (blocked f p) (fault_if (is_none (f p)) NoSuchPath)

-- a path that goes: the root stays
abbrev pub remove_fault : (Path → Option Node) → Path → Option TreeFault
remove_fault f p = option_or (fault_if (same_path p []) BadPath) (change_fault f p)

-- whether a directory is there
abbrev pub is_dir : Option Node → Bool
is_dir = λ o. option_map_or (λ x. is_none x.text) o (is_some o)

-- a text goes to a file
abbrev pub text_fault : (Path → Option Node) → Path → Option TreeFault
text_fault f p = option_or (change_fault f p) (fault_if (is_dir (f p)) KindMismatch)

-- a copy: a new path, then its source, then the limits
abbrev pub copy_fault : (Path → Option Node) → Path → PathMap → Path → Option TreeFault
copy_fault f p from source = option_or (add_fault f p) (option_or (fault_if (is_none (map.get from source)) NoSource) (fault_if (copy_too_long from source p) TooLong))

-- one node at a new path, with its number on the fronts
abbrev pub added : (Path → Option Node) → Path → Node → Path → Option Node
added f p x = grafted (marked f p x.changed) p (alone x)

-- a text and properties where they are given, and the number on the path and its fronts
abbrev pub changed : (Path → Option Node) → Path → Option (List ℕ) → Option PropMap → ℕ → Path → Option Node
changed f p text props number = changed_at (marked f p number) p (with_given text props)

-- nothing at the path or below it, and the number on its proper fronts
abbrev pub removed : (Path → Option Node) → Path → ℕ → Path → Option Node
removed f p number = grafted (marked f p number) p (λ _. None)

-- what stands at a source and below it, its top with the number; what is below the top keeps its own
abbrev pub copied : (Path → Option Node) → Path → (Path → Option Node) → ℕ → Path → Option Node
copied f p g number = marked (grafted f p g) p number
