-- How much of a path a working copy has.
use Rattle.std.specs.Prelude.{Bool, true, Option, if◌then◌else◌}
use Rattle.std.specs.Option.{option_map}
use Rattle.node_base.specs.Path.{Path}
use Rattle.node_base.specs.Tree.{PathMap, alone, new_dir}
use Rattle.tree_reports.specs.Applied.{Content, content}
use Rattle.tree_reports.specs.Reports as reports
use Rattle.tree_reports.specs.Reports.{brought_within}
use Rattle.tree_reports.specs.declared.depth.Depth.{Depth}
use Rattle.tree_reports.specs.declared.depth.Depth.TheVariants as depth
use Rattle.tree_reports.specs.declared.sparse.Part.{Part}
use Rattle.tree_reports.specs.declared.sparse.Part.TheVariants as part
use Rattle.browse_wire.specs.Reports.{Reported}
use Rattle.browse_wire.specs.declared.depth.Depth as wire
use Rattle.browse_wire.specs.declared.depth.Depth.TheVariants as below
use Rattle.browse_wire.specs.declared.depth.Reach.{Reach}
use Rattle.browse_wire.specs.declared.depth.Reach.TheVariants as reach
use Rattle.ra_report.specs.declared.shown.Shown.{Shown}
use Rattle.ra_report.specs.declared.shown.Shown.TheVariants as shown

-- what is known at each path
abbrev pub Known : Type 0
Known = Path → Option Content

-- a directory alone
abbrev pub bare : Known
bare q = option_map content (alone new_dir q)

-- ---- depths of commands and reports

abbrev pub depth_as : wire.Depth → Depth
depth_as below.Empty = depth.Empty
depth_as below.Files = depth.Files
depth_as below.Immediates = depth.Immediates
depth_as below.Infinity = depth.Infinity

abbrev pub part_as : Reach → Part
part_as (reach.To d) = part.Within (depth_as d)
part_as reach.Excluded = part.LeftOut

-- ---- a reported path

-- it is left out, or begins empty, or is so much of its source
abbrev pub shown_by : Bool → Reach → Shown
shown_by empty (reach.To d) = if empty then shown.Emptied else shown.Within (depth_as d)
shown_by empty reach.Excluded = shown.LeftOut

abbrev pub shown_of : Reported → Shown
shown_of r = shown_by r.start_empty r.depth

-- what stands at the path and below it then; what is left out stands as a bare directory
abbrev pub brought : Shown → PathMap → Path → Known
brought shown.Emptied m source = reports.brought true m source
brought (shown.Within d) m source = brought_within d m source
brought shown.LeftOut m source = bare
