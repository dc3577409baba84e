-- The calls that give an open file or directory its properties and its text.
use Rattle.std.specs.Prelude.{ℕ, zero, suc, Bool, not, List, [], ◌∷◌, ◌++◌, Option, Some, None, length, take, drop, map, filter, if◌then◌else◌}
use Rattle.std.specs.Option.{option_map, option_map_or}
use Rattle.std.specs.FinMap as finite
use Rattle.md5.specs.Md5.{md5}
use Rattle.node_base.specs.Path.{Name, Path}
use Rattle.node_base.specs.Entries.{Entries}
use Rattle.node_base.specs.Props.{PropMap}
use Rattle.dump_load.specs.declared.change.Change.{Change}
use Rattle.delta_editor.specs.declared.call.Call.{Call}
use Rattle.delta_editor.specs.declared.call.Call.TheVariants as call

-- a removal for each of these names that the new map lacks
abbrev pub removals : (Name → Option (List ℕ) → Call) → PropMap → Entries → List Call
removals prop new es = map (λ e. prop e.0 None) (filter (λ e. not (finite.contains_key new e.0)) es)

-- a setting for each of these
abbrev pub settings : (Name → Option (List ℕ) → Call) → Entries → List Call
settings prop es = map (λ e. prop e.0 (Some e.1)) es

-- a removal for each name of the old map that the new one lacks, then a setting for each name of the new one, both in name order
abbrev pub prop_calls : (Name → Option (List ℕ) → Call) → PropMap → PropMap → List Call
prop_calls prop old new = removals prop new (finite.entries old) ++ settings prop (finite.entries new)

-- a removal for each name of the old map that the new one lacks
abbrev pub removals_between : (Name → Option (List ℕ) → Call) → PropMap → PropMap → List Call
removals_between prop old new = removals prop new (finite.entries old)

-- a setting for each name of the new map
abbrev pub settings_of : (Name → Option (List ℕ) → Call) → PropMap → List Call
settings_of prop new = settings prop (finite.entries new)

-- at most so many pieces of a text, each as long as a piece may be
abbrev pub pieces_of : ℕ → List ℕ → List (List ℕ)
pieces_of zero text = []
pieces_of (suc k) [] = []
pieces_of (suc k) (b ∷ text) = take 65536 (b ∷ text) ∷ pieces_of k (drop 65536 (b ∷ text))

-- a text in pieces of 65,536 bytes, the last of them perhaps shorter
abbrev pub pieces : List ℕ → List (List ℕ)
pieces text = pieces_of (length text) text

abbrev pub text_calls : Path → List ℕ → List Call
text_calls p text = call.TextStart p ∷ (map (call.TextPiece p) (pieces text) ++ call.TextEnd p ∷ [])

-- what a change gives an open directory, where its properties so far are the old ones
abbrev pub dir_parts : Change → PropMap → List Call
dir_parts c old = option_map_or (prop_calls (call.DirProp c.path) old) c.props []

-- what a change gives an open file, which is closed then
abbrev pub file_parts : Change → PropMap → List Call
file_parts c old = option_map_or (prop_calls (call.FileProp c.path) old) c.props [] ++ (option_map_or (text_calls c.path) c.text [] ++ call.CloseFile c.path (option_map md5 c.text) ∷ [])

-- the properties that a change gives an open file
abbrev pub prop_parts : Change → PropMap → List Call
prop_parts c old = option_map_or (prop_calls (call.FileProp c.path) old) c.props []

-- and the text
abbrev pub text_parts : Change → List Call
text_parts c = option_map_or (text_calls c.path) c.text []

-- both, while the file is open
abbrev pub open_parts : Change → PropMap → List Call
open_parts c old = prop_parts c old ++ text_parts c

abbrev pub parts : Bool → Change → PropMap → List Call
parts file c old = if file then file_parts c old else dir_parts c old
