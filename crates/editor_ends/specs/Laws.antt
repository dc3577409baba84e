-- Laws of the calls that a set is driven as, and of the set that calls come to.
use Rattle.std.specs.Prelude.{◌≡◌, ℕ, ◌<◌, ◌≤◌, List, [], ◌∷◌, ◌++◌, None, length}
use Rattle.std.specs.List.{AllByRecursion, concat}
use Rattle.node_base.specs.Path.{Name, Path}
use Rattle.node_base.specs.Tree.{PathMap, IsDirAt, base}
use Rattle.node_base.specs.declared.limits.TheConstants.{CHANGES}
use Rattle.dump_load.specs.declared.change.Change.{Change}
use Rattle.dump_load.specs.Bounds.{IsWithin}
use Rattle.dump_load.specs.Changes.{IsNormal}
use Rattle.dump_load.specs.Effect.{effect}
use Rattle.dump_load.specs.Faults.{fault}
use Rattle.delta_editor.specs.CallEffect.{call_effect}
use Rattle.delta_editor.specs.declared.call.Call.{Call}
use Rattle.delta_editor.specs.declared.call.Call.TheVariants as call
use Rattle.delta_editor.specs.declared.fault.EditorFault.{EditorFault}
use Rattle.delta_editor.specs.declared.fault.EditorFault.TheVariants.{OutOfMemory}
use Rattle.delta_editor.specs.Nesting.{IsNested}
use Rattle.editor_ends.specs.Parts.{pieces}
use Rattle.editor_ends.specs.Drive.{drive}
use Rattle.editor_ends.specs.BuildFaults.{first_refusal, RefusesWithin}
use Rattle.editor_ends.specs.Built.{IsSetOf}
use Rattle.editor_ends.specs.Refusals.{IsDriveRefusal}

-- where a set has no fault, the calls that it is driven as have its effect
abbrev pub DriveHasTheEffect : Type 0
DriveHasTheEffect = (trees : List PathMap) (s : List Change) → IsNormal s → fault trees s ≡ None → (q : Path) → call_effect trees (drive trees s) q ≡ effect trees s q

-- and over a tree, whose root is a directory, they keep the nesting and the order of a text's calls
abbrev pub DriveIsNested : Type 0
DriveIsNested = (trees : List PathMap) (s : List Change) → IsNormal s → fault trees s ≡ None → IsDirAt (base trees) [] → IsNested (drive trees s)

-- the pieces of a text joined are the text, and each has a byte at least and 65,536 at most
abbrev pub PiecesOfAText : Type 0
PiecesOfAText = (t : List ℕ) → (concat (pieces t) ≡ t) × AllByRecursion (λ p. (0 < length p) × (length p ≤ 65536)) (pieces t)

-- where a set has no fault, an editor that builds over the same trees has no cause to refuse one of the calls that it is driven as
abbrev pub DriveIsTaken : Type 0
DriveIsTaken = (trees : List PathMap) (s : List Change) → IsNormal s → fault trees s ≡ None → IsDirAt (base trees) [] → AllByRecursion IsWithin s → first_refusal trees (drive trees s) ≡ None

-- and such a drive, of no more than 4,096 changes, is refused for want of memory alone
abbrev pub DriveForMemoryAlone : Type 0
DriveForMemoryAlone = (trees : List PathMap) (s : List Change) (e : EditorFault) → IsNormal s → fault trees s ≡ None → IsDirAt (base trees) [] → AllByRecursion IsWithin s → length s ≤ CHANGES → IsDriveRefusal RefusesWithin trees trees s e → e ≡ OutOfMemory

-- so much is left of these two of a set and of trees of a program, whose types keep the limits: where the set has no fault over the trees, no call of its drive is refused
abbrev pub IsTaken : List PathMap → List Change → Type 0
IsTaken trees s = fault trees s ≡ None → first_refusal trees (drive trees s) ≡ None

-- and a drive of it is refused for want of memory alone
abbrev pub IsRefusedForMemoryAlone : List PathMap → List Change → Type 0
IsRefusedForMemoryAlone trees s = (e : EditorFault) → fault trees s ≡ None → IsDriveRefusal RefusesWithin trees trees s e → e ≡ OutOfMemory

-- calls come to one set at most
abbrev pub OneBuiltSet : Type 0
OneBuiltSet = (trees : List PathMap) (calls : List Call) (s t : List Change) → IsSetOf trees s calls → IsSetOf trees t calls → s ≡ t

-- a path is right below another
pub record IsChild (up p : Path) : Type 0 where
  pub name : Name
  pub is : p ≡ up ++ name ∷ []

-- what a call opens, adds or deletes is right below its directory
abbrev pub GoesDown : Call → Type 0
GoesDown (call.AddDir up p from) = IsChild up p
GoesDown (call.OpenDir up p base) = IsChild up p
GoesDown (call.DeleteEntry up p base) = IsChild up p
GoesDown (call.AddFile up p from) = IsChild up p
GoesDown (call.OpenFile up p base) = IsChild up p
GoesDown _ = Unit {0}

-- all calls that a set is driven as go down
abbrev pub DriveGoesDown : Type 0
DriveGoesDown = (trees : List PathMap) (s : List Change) → AllByRecursion GoesDown (drive trees s)
