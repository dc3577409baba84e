-- Laws of the calls' effect and of their nesting.
use Rattle.std.specs.Prelude.{◌≡◌, ◌↔◌, ℕ, Bool, true, false, List, [], ◌∷◌, ◌++◌, Option, Some, None, map, filter, length, IfSome, if◌then◌else◌}
use Rattle.std.specs.List.{concat}
use Rattle.std.specs.FinMap as finite
use Rattle.node_base.specs.Path.{Path, Name, is_front, same_name}
use Rattle.node_base.specs.Props.{PropMap}
use Rattle.node_base.specs.Tree.{PathMap, changed_at, source_at}
use Rattle.node_base.specs.declared.node.Node.{Node}
use Rattle.node_base.specs.declared.node.Source.{Source}
use Rattle.delta_editor.specs.Calls.{Call}
use Rattle.delta_editor.specs.declared.call.Call.TheVariants as call
use Rattle.delta_editor.specs.Nesting.{IsNested}
use Rattle.delta_editor.specs.Grammar.{IsEdit}
use Rattle.delta_editor.specs.CallEffect.{called, all_called, prop_put, with_text}

-- whether a call says something of the revision that is shown: a target, the end of a text and what closes don't
abbrev pub says : Call → Bool
says (call.Target n) = false
says (call.TextEnd p) = false
says (call.CloseFile p sum) = false
says (call.CloseDir p) = false
says call.CloseEdit = false
says _ = true

-- the path at which a call opens, adds or deletes something
abbrev pub touched : Call → Option Path
touched (call.OpenRoot base) = Some []
touched (call.AddDir up p from) = Some p
touched (call.OpenDir up p base) = Some p
touched (call.DeleteEntry up p base) = Some p
touched (call.AddFile up p from) = Some p
touched (call.OpenFile up p base) = Some p
touched _ = None

-- the path of what a call is about
abbrev pub place : Call → Option Path
place (call.Target n) = None
place (call.OpenRoot base) = Some []
place (call.AddDir up p from) = Some p
place (call.OpenDir up p base) = Some p
place (call.DeleteEntry up p base) = Some p
place (call.AddFile up p from) = Some p
place (call.OpenFile up p base) = Some p
place (call.DirProp p name value) = Some p
place (call.FileProp p name value) = Some p
place (call.TextStart p) = Some p
place (call.TextPiece p piece) = Some p
place (call.TextEnd p) = Some p
place (call.CloseFile p sum) = Some p
place (call.CloseDir p) = Some p
place call.CloseEdit = None

-- how a list of calls is cut in two doesn't matter
abbrev pub CallsJoin : Type 0
CallsJoin = (trees : List PathMap) (f : Path → Option Node) (cs ds : List Call) → ◌≡◌ {A = Path → Option Node} (all_called trees f (cs ++ ds)) (all_called trees (all_called trees f cs) ds)

-- targets, ends of texts and what closes change nothing
abbrev pub ClosesChangeNothing : Type 0
ClosesChangeNothing = (trees : List PathMap) (f : Path → Option Node) (cs : List Call) → ◌≡◌ {A = Path → Option Node} (all_called trees f cs) (all_called trees f (filter says cs))

-- however a text is cut into pieces, the node's new text is the pieces joined
abbrev pub PiecesMakeTheText : Type 0
PiecesMakeTheText = (trees : List PathMap) (f : Path → Option Node) (p : Path) (pieces : List (List ℕ)) → ◌≡◌ {A = Path → Option Node} (all_called trees f (call.TextStart p ∷ (map (call.TextPiece p) pieces ++ call.TextEnd p ∷ []))) (changed_at f p (with_text (Some (concat pieces))))

-- a property call changes one name
abbrev pub OneNameChanges : Type 0
OneNameChanges = (name : Name) (value : Option (List ℕ)) (m : PropMap) (q : Name) → finite.get (prop_put name value m) q ≡ (if same_name q name then value else finite.get m q)

-- a path that is opened or added, and what is above one that is opened, added or deleted, has the number of the revision that is shown
abbrev pub TouchedAreNumbered : Type 0
TouchedAreNumbered = (trees : List PathMap) (f : Path → Option Node) (c : Call) (p q : Path) → touched c ≡ Some p → is_front q p ≡ true → IfSome (called trees f c q) (λ x. x.changed ≡ length trees)

-- nothing is left at a path that is deleted, or below it
abbrev pub DeletedIsGone : Type 0
DeletedIsGone = (trees : List PathMap) (f : Path → Option Node) (up p : Path) (before : Option ℕ) (r : Path) → called trees f (call.DeleteEntry up p before) (p ++ r) ≡ None

-- below a directory that is added as a copy stands what stands below its source, whatever was there
abbrev pub CopiedIsTheSource : Type 0
CopiedIsTheSource = (trees : List PathMap) (f : Path → Option Node) (up p : Path) (from : Source) (n : Name) (r : Path) → called trees f (call.AddDir up p (Some from)) (p ++ n ∷ r) ≡ source_at trees from (n ∷ r)

-- what is neither above a call's path nor at it or below it stays as it was
abbrev pub ElsewhereStays : Type 0
ElsewhereStays = (trees : List PathMap) (f : Path → Option Node) (c : Call) (p q : Path) → place c ≡ Some p → is_front q p ≡ false → is_front p q ≡ false → called trees f c q ≡ f q

-- the calls that keep the nesting from the beginning to the end are those of the grammar
abbrev pub NestedIsEdit : Type 0
NestedIsEdit = (calls : List Call) → IsNested calls ↔ IsEdit calls
