-- The changes that differences of two trees are.
use Rattle.std.specs.FinMap as finite
use Rattle.std.specs.Prelude.{◌≡◌, Bool, true, List, map, Some, None, if◌then◌else◌}
use Rattle.node_base.specs.Limits.{fits}
use Rattle.node_base.specs.Path.{Path}
use Rattle.node_base.specs.Tree.{PathMap, kind_of}
use Rattle.node_base.specs.declared.node.Action.{Action}
use Rattle.node_base.specs.declared.node.Action.TheVariants.{Modify, Add, Delete, Replace}
use Rattle.node_base.specs.declared.node.Node.{Node}
use Rattle.dump_load.specs.declared.change.Change.{Change}
use Rattle.tree_reports.specs.declared.difference.Parts.{Parts}
use Rattle.tree_reports.specs.Differences.{Told, Removed, Added, Replaced, Changed, AreDifferences}

abbrev pub bare : Path → Action → Change
bare p a = record { path = p; action = a; kind = None; source = None; props = None; text = None }

-- a node comes with all that it has
abbrev pub brought : Path → Action → Node → Change
brought p a y = record { path = p; action = a; kind = Some (kind_of y); source = None; props = Some y.props; text = y.text }

-- a node gets the parts that are told to differ
abbrev pub changed : Path → Node → Parts → Change
changed p y parts = record { path = p; action = Modify; kind = None; source = None; props = if parts.props then Some y.props else None; text = if parts.text then y.text else None }

-- the change of a path of which so much is told
abbrev pub told_change : Path → Told → Change
told_change p Removed = bare p Delete
told_change p (Added y) = brought p Add y
told_change p (Replaced y) = brought p Replace y
told_change p (Changed y parts) = changed p y parts

abbrev pub change_of : Path × Told → Change
change_of e = told_change e.0 e.1

abbrev pub changes_of : List (Path × Told) → List Change
changes_of = map change_of

-- its path is within the limits
abbrev pub Fits : Path × Told → Type 0
Fits e = fits e.0 ≡ true

-- all that differs between two trees is told, by whether folders are told though nothing differs in them
abbrev pub Between : Bool → PathMap → PathMap → List (Path × Told) → Type 0
Between opens old new es = AreDifferences opens (finite.get old) (finite.get new) es

-- the changes are those of what is told
abbrev pub AreBetween : Bool → PathMap → PathMap → List Change → Type 0
AreBetween opens old new cs = (es : List (Path × Told)) × Between opens old new es × (cs ≡ changes_of es)
