-- What a working copy reports that it has. The nodes' numbers don't count.
use Rattle.std.specs.Prelude.{◌≡◌, Bool, true, false, not, ◌&&◌, [], ◌∷◌, ◌++◌, Option, Some, None, is_some, is_none, Result, Ok, Err, if◌then◌else◌}
use Rattle.std.specs.Option.{option_map, option_map_or, option_or}
use Rattle.std.specs.FinMap as finite
use Rattle.node_base.specs.Path.{Path, rest_after, same_path}
use Rattle.node_base.specs.Tree.{PathMap, alone, blocked, new_dir}
use Rattle.node_base.specs.declared.node.Node.{Node}
use Rattle.path_tree.specs.Copies.{copy_too_long}
use Rattle.tree_reports.specs.declared.error.ReportError.{ReportError}
use Rattle.tree_reports.specs.declared.error.ReportError.TheVariants.{Root, NoFolder, NotThere, TooLong, OutOfMemory}
use Rattle.tree_reports.specs.Applied.{Content, content}
use Rattle.tree_reports.specs.Depths.{within}
use Rattle.tree_reports.specs.declared.depth.Depth.{Depth}

-- what stands at a path, apart from its number
abbrev pub content_at : PathMap → Path → Option Content
content_at m q = option_map content (finite.get m q)

-- what stands at a place and below it is what is reported, and the rest is as before: of the reports at fronts of a
-- path the last decides
abbrev pub placed : (Path → Option Content) → Path → (Path → Option Content) → Path → Option Content
placed old p new q = option_map_or new (rest_after p q) (old q)

-- a file as it is, and a folder without what is in it and without properties
abbrev pub emptied : Node → Content
emptied x = if is_some x.text then content x else content new_dir

-- what stands at a source and below it, or its node emptied
abbrev pub brought : Bool → PathMap → Path → Path → Option Content
brought false m source r = content_at m (source ++ r)
brought true m source [] = option_map emptied (finite.get m source)
brought true m source (n ∷ r) = None

-- what stands at a source and below it, looked at so deep
abbrev pub brought_within : Depth → PathMap → Path → Path → Option Content
brought_within d m source r = option_map content (within d (λ q. finite.get m (source ++ q)) r)

-- a new folder with nothing in it
abbrev pub bare : Path → Option Content
bare r = option_map content (alone new_dir r)

abbrev pub due : Bool → ReportError → Option ReportError
due b e = if b then Some e else None

-- why a path isn't taken: it is the root; what is above it was reported as no folder; nothing is at the source; the
-- paths there would pass the limits
abbrev pub report_fault : PathMap → Path → PathMap → Path → Bool → Option ReportError
report_fault m p from source empty =
    option_or (due (same_path p []) Root)
    (option_or (option_map (λ _. NoFolder) (blocked (finite.get m) p))
    (option_or (due (is_none (finite.get from source)) NotThere) (due (not empty && copy_too_long from source p) TooLong)))

-- why a path isn't left out: it is the root; what is above it was reported as no folder
abbrev pub leave_fault : PathMap → Path → Option ReportError
leave_fault m p = option_or (due (same_path p []) Root) (option_map (λ _. NoFolder) (blocked (finite.get m) p))

-- a fault is what is answered, and without one a refusal is want of memory
abbrev pub Answers : Option ReportError → Result (Unit {0}) ReportError → Type 0
Answers (Some f) r = r ≡ Err f
Answers None (Ok x) = Unit {0}
Answers None (Err e) = e ≡ OutOfMemory
