-- What calls make of the newest of some trees.
use Rattle.std.specs.Prelude.{ℕ, List, [], ◌∷◌, ◌++◌, Option, Some, None, length, if◌then◌else◌}
use Rattle.std.specs.Option.{option_map, option_map_or}
use Rattle.std.specs.FinMap as map
use Rattle.node_base.specs.Path.{Path, Name, same_path}
use Rattle.node_base.specs.Props.{PropMap}
use Rattle.node_base.specs.Tree.{PathMap, grafted, marked, changed_at, with_number, alone, base, blank, source_at}
use Rattle.node_base.specs.declared.node.Node.{Node}
use Rattle.node_base.specs.declared.node.NodeKind.{NodeKind}
use Rattle.node_base.specs.declared.node.NodeKind.TheVariants.{File, Dir}
use Rattle.node_base.specs.declared.node.Source.{Source}
use Rattle.delta_editor.specs.Calls.{Call}
use Rattle.delta_editor.specs.declared.call.Call.TheVariants as call

-- a property map with another value at a name, or with none there
abbrev pub prop_put : Name → Option (List ℕ) → PropMap → PropMap
prop_put name None m = map.remove m name
prop_put name (Some v) m = map.insert m name v

-- a node with another value at a property's name, or with none there
abbrev pub with_prop : Name → Option (List ℕ) → Node → Node
with_prop name value x = record { text = x.text; props = prop_put name value x.props; changed = x.changed }

-- a node with another text
abbrev pub with_text : Option (List ℕ) → Node → Node
with_text text x = record { text = text; props = x.props; changed = x.changed }

-- a node with a piece behind its text so far
abbrev pub with_piece : List ℕ → Node → Node
with_piece piece x = record { text = option_map (λ t. t ++ piece) x.text; props = x.props; changed = x.changed }

-- what an add brings: the source's nodes, or one blank node, the first with the number of the revision that is shown
abbrev pub added : List PathMap → NodeKind → Option Source → Path → Option Node
added trees kind from r = option_map (λ x. if same_path r [] then with_number (length trees) x else x) (option_map_or (source_at trees) from (alone (blank (Some kind))) r)

-- what one call makes of the nodes so far
abbrev pub called : List PathMap → (Path → Option Node) → Call → Path → Option Node
called trees f (call.Target n) = f
called trees f (call.OpenRoot base) = marked f [] (length trees)
called trees f (call.AddDir up p from) = grafted (marked f p (length trees)) p (added trees Dir from)
called trees f (call.OpenDir up p base) = marked f p (length trees)
called trees f (call.DeleteEntry up p base) = grafted (marked f p (length trees)) p (λ _. None)
called trees f (call.AddFile up p from) = grafted (marked f p (length trees)) p (added trees File from)
called trees f (call.OpenFile up p base) = marked f p (length trees)
called trees f (call.DirProp p name value) = changed_at f p (with_prop name value)
called trees f (call.FileProp p name value) = changed_at f p (with_prop name value)
called trees f (call.TextStart p) = changed_at f p (with_text (Some []))
called trees f (call.TextPiece p piece) = changed_at f p (with_piece piece)
called trees f (call.TextEnd p) = f
called trees f (call.CloseFile p sum) = f
called trees f (call.CloseDir p) = f
called trees f call.CloseEdit = f

-- what calls in order make of the nodes so far
abbrev pub all_called : List PathMap → (Path → Option Node) → List Call → Path → Option Node
all_called trees f [] = f
all_called trees f (c ∷ cs) = all_called trees (called trees f c) cs

-- what is at a path after the calls that show the revision that follows some trees
abbrev pub call_effect : List PathMap → List Call → Path → Option Node
call_effect trees = all_called trees (base trees)
