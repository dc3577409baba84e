-- The calls that show a set of changes.
use Rattle.std.specs.Prelude.{ℕ, Bool, true, false, not, List, [], ◌∷◌, ◌++◌, Option, Some, None, length, map, filter, reverse, if◌then◌else◌}
use Rattle.std.specs.Option.{option_map_or, option_and_then}
use Rattle.std.specs.FinMap as finite
use Rattle.node_base.specs.Path.{Path, is_front}
use Rattle.node_base.specs.Props.{PropMap}
use Rattle.node_base.specs.Tree.{PathMap, source_at}
use Rattle.node_base.specs.declared.node.Node.{Node}
use Rattle.node_base.specs.declared.node.Action.{Action}
use Rattle.node_base.specs.declared.node.Action.TheVariants.{Modify, Add, Delete, Replace}
use Rattle.dump_load.specs.declared.change.Change.{Change}
use Rattle.dump_load.specs.Changes.{brings, is_delete}
use Rattle.dump_load.specs.Effect.{effect}
use Rattle.dump_load.specs.Faults.{judged, is_file}
use Rattle.delta_editor.specs.declared.call.Call.{Call}
use Rattle.delta_editor.specs.declared.call.Call.TheVariants as call
use Rattle.editor_ends.specs.Fronts.{above, fronts}
use Rattle.editor_ends.specs.Parts.{dir_parts, file_parts, parts}

-- the revision before the one that is shown, which everything is known at
abbrev pub base_number : List PathMap → Option ℕ
base_number [] = None
base_number (t ∷ ts) = Some (length ts)

-- what a change begins with, where f is what the changes before it left: the node that is there, or the source's
abbrev pub begins_with : List PathMap → (Path → Option Node) → Change → Option Node
begins_with trees f c = if brings c then option_and_then (λ s. source_at trees s []) c.source else f c.path

-- the properties of that node
abbrev pub old_props : List PathMap → (Path → Option Node) → Change → PropMap
old_props trees f c = option_map_or (λ x. x.props) (begins_with trees f c) finite.empty

-- whether a change is one of a file
abbrev pub of_file : List PathMap → (Path → Option Node) → Change → Bool
of_file trees f c = option_map_or is_file (judged trees f c) false

-- the calls that open what is changed or added, or delete it
abbrev pub opening : List PathMap → Bool → Change → List Call
opening trees file c = opened c.action
  where
    deleted : Call
    deleted = call.DeleteEntry (above c.path) c.path (base_number trees)

    added : Call
    added = if file then call.AddFile (above c.path) c.path c.source else call.AddDir (above c.path) c.path c.source

    opened : Action → List Call
    opened Modify = (if file then call.OpenFile (above c.path) c.path (base_number trees) else call.OpenDir (above c.path) c.path (base_number trees)) ∷ []
    opened Add = added ∷ []
    opened Delete = deleted ∷ []
    opened Replace = deleted ∷ added ∷ []

-- the calls of one change, of a file or not, with such old properties. A directory stays open; the root is open already
abbrev pub calls_with : List PathMap → Bool → PropMap → Change → List Call
calls_with trees file old c = (if is_front c.path [] then [] else opening trees file c) ++ (if is_delete c.action then [] else parts file c old)

-- the calls of a change that adds or changes a file, from its opening to its close
abbrev pub file_calls : List PathMap → Change → PropMap → List Call
file_calls trees c old = opening trees true c ++ file_parts c old

-- and a directory, which stays open
abbrev pub dir_calls : List PathMap → Change → PropMap → List Call
dir_calls trees c old = opening trees false c ++ dir_parts c old

abbrev pub change_calls : List PathMap → (Path → Option Node) → Change → List Call
change_calls trees f c = calls_with trees (of_file trees f c) (old_props trees f c) c

-- the innermost open directory after a change
abbrev pub rests_with : Bool → Change → Path
rests_with file c = if is_delete c.action then above c.path else if file then above c.path else c.path

abbrev pub rests_at : List PathMap → (Path → Option Node) → Change → Path
rests_at trees f c = rests_with (of_file trees f c) c

-- each directory that is open and isn't above a path, or it, is closed, the innermost first
abbrev pub closes : Path → Path → List Call
closes at p = map call.CloseDir (reverse (filter (λ d. not (is_front d p)) (fronts at)))

-- each directory above a path that isn't open is opened
abbrev pub opens : List PathMap → Path → Path → List Call
opens trees at p = map (λ d. call.OpenDir (above d) d (base_number trees)) (filter (λ d. not (is_front d at)) (fronts (above p)))

-- the calls for the changes that follow those done, where `at` is the innermost open directory
abbrev pub walk : List PathMap → List Change → Path → List Change → List Call
walk trees done at [] = closes at []
walk trees done at (c ∷ s) =
    (closes at c.path ++ (opens trees at c.path ++ change_calls trees (effect trees done) c)) ++ walk trees (done ++ c ∷ []) (rests_at trees (effect trees done) c) s

-- the calls that show a set as the revision after some trees, but for the end of the edit
abbrev pub edit_calls : List PathMap → List Change → List Call
edit_calls trees s = call.Target (length trees) ∷ call.OpenRoot (base_number trees) ∷ (walk trees [] [] s ++ call.CloseDir [] ∷ [])

-- all calls that show a set as the revision after some trees
abbrev pub drive : List PathMap → List Change → List Call
drive trees s = call.Target (length trees) ∷ call.OpenRoot (base_number trees) ∷ (walk trees [] [] s ++ (call.CloseDir [] ∷ call.CloseEdit ∷ []))
