-- Why an editor that builds a set refuses a call, by the calls before it.
use Rattle.std.specs.Prelude.{◌≡◌, ℕ, ◌==◌, nat_lt, ◌<◌, Bool, true, false, not, ◌&&◌, ◌||◌, List, [], ◌∷◌, ◌++◌, length, Option, Some, None, is_some, is_none, if◌then◌else◌}
use Rattle.std.specs.Option.{option_or, option_map, option_map_or}
use Rattle.std.specs.List.{list_any, AllByRecursion}
use Rattle.std.specs.FinMap as finite
use Rattle.node_base.specs.Path.{Path, Name, same_path, is_front}
use Rattle.node_base.specs.Tree.{PathMap}
use Rattle.node_base.specs.declared.node.Node.{Node}
use Rattle.node_base.specs.declared.node.NodeKind.{NodeKind}
use Rattle.node_base.specs.declared.node.NodeKind.TheVariants.{File, Dir}
use Rattle.node_base.specs.declared.node.Action.{Action}
use Rattle.node_base.specs.declared.node.Action.TheVariants.{Modify, Add, Delete}
use Rattle.node_base.specs.declared.node.Source.{Source}
use Rattle.node_base.specs.declared.limits.TheConstants.{CHANGES, PROP_VALUE_BYTES}
use Rattle.path_tree.specs.Calls.{text_fault}
use Rattle.path_tree.specs.NodeCalls.{prop_fault, piece_fault}
use Rattle.dump_load.specs.declared.change.Change.{Change}
use Rattle.dump_load.specs.Changes.{settles, is_delete, is_add, IsNormal}
use Rattle.dump_load.specs.Effect.{effect}
use Rattle.dump_load.specs.Faults.{fault_if, first_of, fault_of}
use Rattle.delta_editor.specs.declared.call.Call.{Call}
use Rattle.delta_editor.specs.declared.call.Call.TheVariants as call
use Rattle.delta_editor.specs.CallEffect.{call_effect}
use Rattle.delta_editor.specs.Faults.{refused}
use Rattle.delta_editor.specs.Laws.{touched}
use Rattle.delta_editor.specs.Nesting.{Stage, Before, run}
use Rattle.delta_editor.specs.declared.fault.EditorFault.{EditorFault}
use Rattle.delta_editor.specs.declared.fault.EditorFault.TheVariants as refusal

-- whether a path is below another
abbrev pub is_below : Path → Path → Bool
is_below p q = is_front p q && not (same_path p q)

-- whether a call opens or adds what is at a path
abbrev pub takes : Path → Call → Bool
takes p (call.OpenRoot base) = same_path [] p
takes p (call.AddDir up q from) = same_path q p
takes p (call.OpenDir up q base) = same_path q p
takes p (call.AddFile up q from) = same_path q p
takes p (call.OpenFile up q base) = same_path q p
takes p _ = false

-- whether a call opens, adds or deletes something below a path
abbrev pub acts_below : Path → Call → Bool
acts_below p c = option_map_or (is_below p) (touched c) false

abbrev pub blank_text : Option NodeKind → Option (List ℕ)
blank_text None = None
blank_text (Some Dir) = None
blank_text (Some File) = Some []

-- a change as a call begins it: an add that copies nothing gives all that is there
abbrev pub begun : Action → Option NodeKind → Path → Option Source → Change
begun action kind path source =
    record { path = path; action = action; kind = kind; source = source; props = if is_add action && is_none source then Some finite.empty else None; text = if is_add action && is_none source then blank_text kind else None }

-- why a change may not begin where f is what is there: the root is added or deleted, it comes out of order, and then its first fault
abbrev pub begin_fault : List PathMap → (Path → Option Node) → Bool → Change → Option EditorFault
begin_fault trees f out_of_order x = first_of (fault_if (same_path x.path [] && settles x.action) refusal.BadPath ∷ fault_if out_of_order refusal.OutOfOrder ∷ option_map refused (fault_of trees f x) ∷ [])

-- a path is opened or added again, or deleted after it was opened or added or something below it was opened, added or deleted
abbrev pub is_late : List Call → Change → Bool
is_late done x = list_any (takes x.path) done || (is_delete x.action && list_any (acts_below x.path) done)

abbrev pub beginning : List PathMap → List Call → Change → Option EditorFault
beginning trees done x = begin_fault trees (call_effect trees done) (is_late done x) x

-- a value of more than 65,536 bytes
abbrev pub is_long : Option (List ℕ) → Bool
is_long value = option_map_or (λ v. nat_lt PROP_VALUE_BYTES (length v)) value false

-- why a property isn't put where f is what is there
abbrev pub put_fault : (Path → Option Node) → Path → Name → Option (List ℕ) → Option EditorFault
put_fault f p name value = option_or (fault_if (is_long value) refusal.TooLong) (option_map refused (prop_fault f p name (is_some value)))

-- why a call is refused after those before it, wherever memory suffices and the whole set isn't too long
abbrev pub call_fault : List PathMap → List Call → Call → Option EditorFault
call_fault trees done (call.Target n) = fault_if (not (n == length trees)) refusal.WrongNumber
call_fault trees done (call.OpenRoot base) = beginning trees done (begun Modify (Some Dir) [] None)
call_fault trees done (call.AddDir up p from) = beginning trees done (begun Add (Some Dir) p from)
call_fault trees done (call.OpenDir up p base) = beginning trees done (begun Modify (Some Dir) p None)
call_fault trees done (call.DeleteEntry up p base) = beginning trees done (begun Delete None p None)
call_fault trees done (call.AddFile up p from) = beginning trees done (begun Add (Some File) p from)
call_fault trees done (call.OpenFile up p base) = beginning trees done (begun Modify (Some File) p None)
call_fault trees done (call.DirProp p name value) = put_fault (call_effect trees done) p name value
call_fault trees done (call.FileProp p name value) = put_fault (call_effect trees done) p name value
call_fault trees done (call.TextStart p) = option_map refused (text_fault (call_effect trees done) p)
call_fault trees done (call.TextPiece p piece) = option_map refused (piece_fault (call_effect trees done) p piece)
call_fault trees done (call.TextEnd p) = None
call_fault trees done (call.CloseFile p sum) = None
call_fault trees done (call.CloseDir p) = None
call_fault trees done call.CloseEdit = None

-- the first refusal of the calls that follow those done
abbrev pub refusal_after : List PathMap → List Call → List Call → Option EditorFault
refusal_after trees done [] = None
refusal_after trees done (c ∷ cs) = option_or (call_fault trees done c) (refusal_after trees (done ++ c ∷ []) cs)

-- the first refusal of some calls
abbrev pub first_refusal : List PathMap → List Call → Option EditorFault
first_refusal trees calls = refusal_after trees [] calls

-- whether a call adds or deletes what is at a path, or gives it something
abbrev pub gives : Path → Call → Bool
gives p (call.AddDir up q from) = same_path q p
gives p (call.DeleteEntry up q base) = same_path q p
gives p (call.AddFile up q from) = same_path q p
gives p (call.DirProp q name value) = same_path q p
gives p (call.FileProp q name value) = same_path q p
gives p (call.TextStart q) = same_path q p
gives p (call.TextPiece q piece) = same_path q p
gives p _ = false

-- whether calls come to a change of a path: one of them adds or deletes it or gives it something, or it is opened and nothing
-- below it is opened, added or deleted
abbrev pub is_changed : List Call → Path → Bool
is_changed calls p = list_any (gives p) calls || (list_any (takes p) calls && not (list_any (acts_below p) calls))

-- calls come to more than 4,096 changes: a normal set of so many has their effect, each of a path that they change
pub record IsTooLarge (trees : List PathMap) (calls : List Call) : Type 0 where
  pub set : List Change
  pub normal : IsNormal set
  pub is : (q : Path) → effect trees set q ≡ call_effect trees calls q
  pub changed : AllByRecursion (λ c. is_changed calls c.path ≡ true) set
  pub many : CHANGES < length set

-- memory ran out, it is the fault of the call, or the calls come to too many changes
pub data IsCallRefusal (trees : List PathMap) (done : List Call) (c : Call) (e : EditorFault) : Type 0 where
  OfMemory : e ≡ refusal.OutOfMemory → IsCallRefusal trees done c e
  OfCall : call_fault trees done c ≡ Some e → IsCallRefusal trees done c e
  OfSize : c ≡ call.CloseEdit → e ≡ refusal.TooLong → IsTooLarge trees done → IsCallRefusal trees done c e

-- where the calls keep the nesting
abbrev pub RefusesWithin : List PathMap → List Call → Call → EditorFault → Type 0
RefusesWithin trees done c e = (s : Stage) → run Before (done ++ c ∷ []) ≡ Some s → IsCallRefusal trees done c e
