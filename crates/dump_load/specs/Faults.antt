-- The first fault of a set of changes.
use Rattle.std.specs.Prelude.{◌≡◌, ◌≤◌, ◌<◌, ℕ, ◌++◌, Bool, true, false, not, ◌&&◌, ◌||◌, List, [], ◌∷◌, length, Option, Some, None, is_some, is_none, if◌then◌else◌}
use Rattle.std.specs.Option.{option_or, option_map, option_map_or}
use Rattle.std.specs.List.{slice_get}
use Rattle.node_base.specs.Path.{Path, same_path}
use Rattle.path_tree.specs.Copies.{copy_too_long}
use Rattle.node_base.specs.Tree.{PathMap, blocked, kind_of, source_at}
use Rattle.node_base.specs.declared.node.Node.{Node}
use Rattle.node_base.specs.declared.node.Action.{Action}
use Rattle.node_base.specs.declared.node.Action.TheVariants.{Modify, Add, Delete, Replace}
use Rattle.node_base.specs.declared.node.NodeKind.{NodeKind}
use Rattle.node_base.specs.declared.node.NodeKind.TheVariants.{File, Dir}
use Rattle.node_base.specs.declared.node.Source.{Source}
use Rattle.node_base.specs.Refusals.{refusal_number}
use Rattle.node_base.specs.declared.refusal.Refusal.{Refusal}
use Rattle.node_base.specs.declared.refusal.Refusal.TheVariants as table
use Rattle.node_base.specs.declared.fault.TreeFault.{TreeFault}
use Rattle.node_base.specs.declared.fault.TreeFault.TheVariants.{TooLong, BadPath, NoSuchPath, PathThere, NotDir, NoSource, KindMismatch}
use Rattle.node_base.specs.declared.limits.TheConstants.{CHANGES}
use Rattle.dump_load.specs.declared.change.Change.{Change}
use Rattle.dump_load.specs.declared.fault.ChangeFault.{ChangeFault}
use Rattle.dump_load.specs.declared.fault.ChangeFault.TheVariants as refusal
use Rattle.dump_load.specs.Changes.{settles, brings, IsInOrder, IsNormal}
use Rattle.dump_load.specs.Effect.{effect}

-- the fault where the test holds
abbrev pub fault_if : {F : Type 0} → Bool → F → Option F
fault_if b f = if b then Some f else None

-- the first of several that is there
abbrev pub first_of : {F : Type 0} → List (Option F) → Option F
first_of [] = None
first_of (f ∷ fs) = option_or f (first_of fs)

-- an add wants nothing there, all others something
abbrev pub place_fault : Action → Bool → Option TreeFault
place_fault Add there = fault_if there PathThere
place_fault Modify there = fault_if (not there) NoSuchPath
place_fault Delete there = fault_if (not there) NoSuchPath
place_fault Replace there = fault_if (not there) NoSuchPath

abbrev pub is_file : NodeKind → Bool
is_file File = true
is_file Dir = false

abbrev pub same_kind : NodeKind → NodeKind → Bool
same_kind File k = is_file k
same_kind Dir k = not (is_file k)

-- the kind that counts for an add or a replace: the source's, or the one that is given
abbrev pub brought_kind : List PathMap → Change → Option NodeKind
brought_kind trees c = option_map_or (λ s. option_map kind_of (source_at trees s [])) c.source c.kind

-- the kind that counts where this stands, if anything does
abbrev pub kind_over : List PathMap → Option Node → Change → Option NodeKind
kind_over trees there c = if brings c then brought_kind trees c else option_map kind_of there

-- the kind that counts
abbrev pub judged : List PathMap → (Path → Option Node) → Change → Option NodeKind
judged trees before c = kind_over trees (before c.path) c

-- a kind that is given and differs, or a text for a directory
abbrev pub mismatches : Option NodeKind → Bool → NodeKind → Bool
mismatches given has_text k = not (option_map_or (λ g. same_kind g k) given true) || (has_text && not (is_file k))

-- the source isn't in an earlier revision
abbrev pub lacks_source : List PathMap → Change → Bool
lacks_source trees c = option_map_or (λ s. is_none (source_at trees s [])) c.source false

-- some path of the copy is past the limits
abbrev pub copies_too_long : List PathMap → Path → Source → Bool
copies_too_long trees p s = option_map_or (λ m. copy_too_long m s.path p) (slice_get trees s.revision) false

-- the faults of one change in their order, where before is what the changes before it left
abbrev pub fault_of : List PathMap → (Path → Option Node) → Change → Option TreeFault
fault_of trees before c =
    first_of
    (fault_if (same_path c.path [] && settles c.action) BadPath
    ∷ blocked before c.path
    ∷ place_fault c.action (is_some (before c.path))
    ∷ fault_if (lacks_source trees c) NoSource
    ∷ fault_if (option_map_or (mismatches c.kind (is_some c.text)) (judged trees before c) false) KindMismatch
    ∷ fault_if (brings c && option_map_or (copies_too_long trees c.path) c.source false) TooLong
    ∷ []
    )

-- the first fault of the changes that follow those done
abbrev pub fault_after : List PathMap → List Change → List Change → Option TreeFault
fault_after trees done [] = None
fault_after trees done (c ∷ s) = option_or (fault_of trees (effect trees done) c) (fault_after trees (done ++ c ∷ []) s)

-- the first fault of a set
abbrev pub fault : List PathMap → List Change → Option TreeFault
fault trees s = fault_after trees [] s

-- the refusal that a fault of a change becomes
abbrev pub refused : TreeFault → ChangeFault
refused TooLong = refusal.TooLong
refused BadPath = refusal.BadPath
refused NoSuchPath = refusal.NoSuchPath
refused PathThere = refusal.PathThere
refused NotDir = refusal.NotDir
refused NoSource = refusal.NoSource
refused KindMismatch = refusal.KindMismatch

-- a refusal is the first fault, or want of memory
abbrev pub IsRefusal : ChangeFault → Option ChangeFault → Type 0
IsRefusal refusal.OutOfMemory first = Unit {0}
IsRefusal e first = first ≡ Some e

-- why some changes are no set: they are too many; else they aren't in order; else one of them isn't whole
abbrev pub IsNoSet : List Change → ChangeFault → Type 0
IsNoSet s refusal.TooLong = CHANGES < length s
IsNoSet s refusal.OutOfOrder = (length s ≤ CHANGES) × (IsInOrder s → ⊥)
IsNoSet s refusal.BadHeader = (length s ≤ CHANGES) × IsInOrder s × (IsNormal s → ⊥)
IsNoSet s e = ⊥

-- the refusal of the table that it is
abbrev pub change_refusal : ChangeFault → Refusal
change_refusal refusal.BadHeader = table.BadHeader
change_refusal refusal.TooLong = table.TooLong
change_refusal refusal.BadPath = table.BadPath
change_refusal refusal.NoSuchPath = table.NoSuchPath
change_refusal refusal.PathThere = table.PathThere
change_refusal refusal.NotDir = table.NotDir
change_refusal refusal.NoSource = table.NoSource
change_refusal refusal.OutOfOrder = table.OutOfOrder
change_refusal refusal.WrongNumber = table.WrongNumber
change_refusal refusal.KindMismatch = table.KindMismatch
change_refusal refusal.OutOfMemory = table.OutOfMemory

-- its number
abbrev pub number_of : ChangeFault → ℕ
number_of f = refusal_number (change_refusal f)
