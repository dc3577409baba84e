-- What the answer of a call adds to what was shown, or why it is a refusal.
use Rattle.std.proofs.Common.{◌≡◌, ap, Bool, true, List, [], ◌∷◌, ◌++◌, Option, None}
use Rattle.std.specs.Prelude.{OnOk, IfErr, Result, Ok, Err}
use Rattle.std.specs.Option.{option_map}
use Rattle.std.specs.FinMap.{get}
use Rattle.node_base.specs.Path.{Path}
use Rattle.node_base.specs.Tree.{PathMap}
use Rattle.node_base.specs.declared.node.Node.{Node}
use Rattle.node_base.specs.declared.fault.TreeFault.{TreeFault}
use Rattle.dump_load.specs.declared.change.Change.{Change}
use Rattle.dump_load.specs.Changes.{IsNormal}
use Rattle.delta_editor.specs.declared.call.Call.{Call}
use Rattle.delta_editor.specs.CallEffect.{call_effect}
use Rattle.delta_editor.specs.Faults.{refused}
use Rattle.delta_editor.specs.Nesting.{begun}
use Rattle.delta_editor.specs.declared.fault.EditorFault.{EditorFault}
use Rattle.editor_ends.specs.BuildFaults.{begin_fault, call_fault, RefusesWithin}
use Rattle.editor_ends.specs.Built.{is_taken, is_late_in, Made, Begins, Gives, IsFaultOr, BuildsWithin}
use Rattle.editor_ends.proofs.Filled.{Nodes}
use Rattle.editor_ends.proofs.Shows.{BeginsAs, GivesAs, IsOpenAt, adds_begun, refuses_begun, adds_given, refuses_given}

pub given_ok : {A : Type 0} (r : Result A EditorFault) (trees : List PathMap) (tree new_tree : PathMap) (s new : List Change) (c : Call) (p : Path) (g : Node → Node) (k : Change → Change) (props text : Bool) (fault : Nodes → Option EditorFault) → GivesAs c p g k props text → IsOpenAt c p → ((calls : List Call) → call_fault trees calls c ≡ fault (call_effect trees calls)) → OnOk r (fault (get tree) ≡ None) → OnOk r ((trees : List PathMap) → Made trees tree s → Gives trees tree s new_tree new p g k) → OnOk r ((calls : List Call) → BuildsWithin trees tree s calls → BuildsWithin trees new_tree new (calls ++ c ∷ []))
given_ok (Ok x) trees tree new_tree s new c p g k props text fault facts open_at same none h = adds_given trees tree new_tree s new c p g k props text fault facts open_at same none (h trees)
given_ok (Err e) trees tree new_tree s new c p g k props text fault facts open_at same none h = tt

pub given_err : {A : Type 0} (r : Result A EditorFault) (trees : List PathMap) (tree : PathMap) (s : List Change) (c : Call) (p : Path) (fault : Nodes → Option EditorFault) → begun c ≡ None → IsOpenAt c p → ((calls : List Call) → call_fault trees calls c ≡ fault (call_effect trees calls)) → IfErr r (λ e. IsNormal s → is_taken s p ≡ true → IsFaultOr (fault (get tree)) e) → IfErr r (λ e. (calls : List Call) → BuildsWithin trees tree s calls → RefusesWithin trees calls c e)
given_err (Ok x) trees tree s c p fault none open_at same h = tt
given_err (Err e) trees tree s c p fault none open_at same h = refuses_given trees tree s c p e fault none open_at same h

pub begun_ok : {A : Type 0} (r : Result A EditorFault) (trees : List PathMap) (tree new_tree : PathMap) (s new : List Change) (c : Call) (x : Change) → BeginsAs c x → OnOk r (Made trees tree s → Begins trees tree s new_tree new x) → OnOk r ((calls : List Call) → BuildsWithin trees tree s calls → BuildsWithin trees new_tree new (calls ++ c ∷ []))
begun_ok (Ok y) trees tree new_tree s new c x facts h = adds_begun trees tree new_tree s new c x facts h
begun_ok (Err e) trees tree new_tree s new c x facts h = tt

pub begun_err : {A : Type 0} (r : Result A EditorFault) (trees : List PathMap) (tree : PathMap) (s : List Change) (c : Call) (x : Change) → BeginsAs c x → IfErr r (λ e. Made trees tree s → IsFaultOr (begin_fault trees (get tree) (is_late_in s x) x) e) → IfErr r (λ e. (calls : List Call) → BuildsWithin trees tree s calls → RefusesWithin trees calls c e)
begun_err (Ok y) trees tree s c x facts h = tt
begun_err (Err e) trees tree s c x facts h = refuses_begun trees tree s c x e facts h

pub faultless_told : {A : Type 0} (r : Result A EditorFault) (fault : Option TreeFault) → OnOk r (fault ≡ None) → OnOk r (option_map refused fault ≡ None)
faultless_told (Ok x) fault h = ap (option_map refused) h
faultless_told (Err e) fault h = tt
