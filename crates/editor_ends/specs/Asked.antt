-- What calls ask of an editor that builds a set, path by path: what each change of the set is.
use Rattle.std.specs.Prelude.{◌≡◌, Bool, true, false, ◌&&◌, List, [], ◌∷◌, Option, Some, None, is_none, unwrap_or, if◌then◌else◌}
use Rattle.std.specs.Option.{option_or, option_map_or}
use Rattle.std.specs.List.{list_any}
use Rattle.std.specs.FinMap as finite
use Rattle.node_base.specs.Path.{Path, same_path}
use Rattle.node_base.specs.Tree.{PathMap}
use Rattle.node_base.specs.declared.node.NodeKind.{NodeKind}
use Rattle.node_base.specs.declared.node.NodeKind.TheVariants.{File, Dir}
use Rattle.node_base.specs.declared.node.Action.{Action}
use Rattle.node_base.specs.declared.node.Action.TheVariants.{Modify, Add, Delete, Replace}
use Rattle.node_base.specs.declared.node.Source.{Source}
use Rattle.dump_load.specs.declared.change.Change.{Change}
use Rattle.dump_load.specs.Changes.{brings}
use Rattle.delta_editor.specs.CallEffect.{call_effect}
use Rattle.delta_editor.specs.declared.call.Call.{Call}
use Rattle.delta_editor.specs.declared.call.Call.TheVariants as call

-- whether a call deletes what is at a path
abbrev pub deletes : Path → Call → Bool
deletes p (call.DeleteEntry up q base) = same_path q p
deletes p _ = false

-- whether a call adds something at a path
abbrev pub adds : Path → Call → Bool
adds p (call.AddDir up q from) = same_path q p
adds p (call.AddFile up q from) = same_path q p
adds p _ = false

-- the kind of what a call opens or adds at a path
abbrev pub kind_at : Path → Call → Option NodeKind
kind_at p (call.OpenRoot base) = if same_path [] p then Some Dir else None
kind_at p (call.AddDir up q from) = if same_path q p then Some Dir else None
kind_at p (call.OpenDir up q base) = if same_path q p then Some Dir else None
kind_at p (call.AddFile up q from) = if same_path q p then Some File else None
kind_at p (call.OpenFile up q base) = if same_path q p then Some File else None
kind_at p _ = None

-- the source that a call names for what it adds at a path
abbrev pub source_at : Path → Call → Option Source
source_at p (call.AddDir up q from) = if same_path q p then from else None
source_at p (call.AddFile up q from) = if same_path q p then from else None
source_at p _ = None

-- whether a call says what properties there are at a path: it gives one a value, or removes it, or adds something that is no copy
abbrev pub tells_props : Path → Call → Bool
tells_props p (call.AddDir up q from) = same_path q p && is_none from
tells_props p (call.AddFile up q from) = same_path q p && is_none from
tells_props p (call.DirProp q name value) = same_path q p
tells_props p (call.FileProp q name value) = same_path q p
tells_props p _ = false

-- whether a call says what text there is at a path: it begins it or sends a piece, or adds a file that is no copy
abbrev pub tells_text : Path → Call → Bool
tells_text p (call.AddFile up q from) = same_path q p && is_none from
tells_text p (call.TextStart q) = same_path q p
tells_text p (call.TextPiece q piece) = same_path q p
tells_text p _ = false

-- what the last of the calls that say it says
abbrev pub last_of : {A : Type 0} → (Call → Option A) → List Call → Option A
last_of said [] = None
last_of said (c ∷ cs) = option_or (last_of said cs) (said c)

-- a deletion, alone or before an add
abbrev pub removes : Action → Bool
removes Modify = false
removes Add = false
removes Delete = true
removes Replace = true

-- a change is what the calls at its path ask for: it deletes where one of them deletes, and adds where one adds, so that it is a
-- replace where both are; it is of the kind that they open or add, a copy of the source that they name, and gives the properties,
-- and the text, that the calls come to, where they say what these are
pub record IsAsked (trees : List PathMap) (calls : List Call) (c : Change) : Type 0 where
  pub deleted : removes c.action ≡ list_any (deletes c.path) calls
  pub added : brings c ≡ list_any (adds c.path) calls
  pub kind_is : c.kind ≡ last_of (kind_at c.path) calls
  pub source_is : c.source ≡ last_of (source_at c.path) calls
  pub props_are : c.props ≡ (if list_any (tells_props c.path) calls then Some (option_map_or (λ x. x.props) (call_effect trees calls c.path) finite.empty) else None)
  pub text_is : c.text ≡ (if list_any (tells_text c.path) calls then Some (option_map_or (λ x. unwrap_or x.text []) (call_effect trees calls c.path) []) else None)
