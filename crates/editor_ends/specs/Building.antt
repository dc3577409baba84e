-- How changes are begun and given parts, beside the tree that they make: what each call answers.
use Rattle.std.specs.Prelude.{◌≡◌, ◌≤◌, ◌++◌, ◌∷◌, ℕ, true, List, length, Option, Some, Result, IfOk, IfErr, IfSome, OnOk}
use Rattle.std.specs.Option.{option_map}
use Rattle.std.specs.List.{slice_get}
use Rattle.std.specs.FinMap as finite
use Rattle.node_base.specs.Path.{Path}
use Rattle.node_base.specs.Tree.{PathMap}
use Rattle.node_base.specs.declared.limits.TheConstants.{REVISION}
use Rattle.node_base.specs.declared.node.Node.{Node}
use Rattle.dump_load.specs.declared.change.Change.{Change}
use Rattle.dump_load.specs.Changes.{IsNormal}
use Rattle.dump_load.specs.Effect.{stepped}
use Rattle.dump_load.specs.Faults.{fault_of}
use Rattle.delta_editor.specs.Faults.{refused}
use Rattle.delta_editor.specs.declared.fault.EditorFault.{EditorFault}
use Rattle.editor_ends.specs.BuildFaults.{begin_fault}
use Rattle.editor_ends.specs.Built.{Made, Begins, Gives, Keeps, IsFaultOr, IsFinishRefusal, IsLean, IsSetOver, is_late_in, is_taken}

-- the change is made in the tree
abbrev pub IsStepped : List PathMap → PathMap → PathMap → Change → Type 0
IsStepped trees old new x = (q : Path) → finite.get new q ≡ stepped trees (finite.get old) x q

-- it isn't, for the fault that it has there, where the trees have numbers
abbrev pub RefusesToMake : {T : Type 0} → List PathMap → PathMap → Change → Result T EditorFault → Type 0
RefusesToMake trees tree x result = IfErr result (λ e. length trees ≤ REVISION → IsFaultOr (option_map refused (fault_of trees (finite.get tree) x)) e)

-- a change was begun
abbrev pub BeginsChange : {T : Type 0} → List PathMap → PathMap → PathMap → List Change → List Change → Change → Result T EditorFault → Type 0
BeginsChange trees old new before after x result = OnOk result (Made trees old before → Begins trees old before new after x)

-- why it wasn't
abbrev pub RefusesChange : {T : Type 0} → List PathMap → PathMap → List Change → Change → Result T EditorFault → Type 0
RefusesChange trees tree s x result = IfErr result (λ e. Made trees tree s → IsFaultOr (begin_fault trees (finite.get tree) (is_late_in s x) x) e)

-- the node at a path was given something, and the change of the path with it
abbrev pub GivesPart : {T : Type 0} → PathMap → PathMap → List Change → List Change → Path → (Node → Node) → (Change → Change) → Result T EditorFault → Type 0
GivesPart old new before after p g k result = OnOk result ((trees : List PathMap) → Made trees old before → Gives trees old before new after p g k)

-- why it wasn't, where it is open: for this fault, if any
abbrev pub RefusesPart : {T : Type 0} → List Change → Path → Option EditorFault → Result T EditorFault → Type 0
RefusesPart s p fault result = IfErr result (λ e. IsNormal s → is_taken s p ≡ true → IsFaultOr fault e)

-- the change at the place is the path's
abbrev pub FindsOpen : List Change → Path → Option ℕ → Type 0
FindsOpen s p result = IfSome result (λ i. IsNormal s → (c : Change) → slice_get s i ≡ Some c → c.path ≡ p)

-- with the next change the set keeps its effect and all that it gives
abbrev pub KeepsOn : List Change → List Change → Change → Type 0
KeepsOn before after x = (trees : List PathMap) (rest : List Change) → IsNormal (before ++ x ∷ rest) → Keeps trees (before ++ x ∷ rest) (after ++ rest)

-- and no change in it only leads to the next
abbrev pub KeepsLean : List Change → List Change → Change → Type 0
KeepsLean before after x = (rest : List Change) → IsNormal (before ++ x ∷ rest) → IsLean before → IsLean after

-- the set of the changes, with what they gave as the tree has it
abbrev pub FinishesAs : PathMap → List Change → Result (List Change) EditorFault → Type 0
FinishesAs tree changes result = IfOk result (λ s. (trees : List PathMap) → Made trees tree changes → IsSetOver trees (finite.get tree) changes s)

-- why there is none
abbrev pub RefusesToFinish : PathMap → List Change → Result (List Change) EditorFault → Type 0
RefusesToFinish tree changes result = IfErr result (λ e. (trees : List PathMap) → Made trees tree changes → IsFinishRefusal trees (finite.get tree) changes e)
