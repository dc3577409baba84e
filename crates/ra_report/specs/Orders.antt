-- What a command that a report follows wants a working copy to become: what stands at a place of a revision.
use Rattle.std.specs.Prelude.{◌≡◌, ℕ, Bool, true, false, not, List, [], ◌∷◌, ◌++◌, Option, Some, None}
use Rattle.std.specs.Option.{option_or}
use Rattle.std.specs.FinMap as finite
use Rattle.node_base.specs.Limits.{fits}
use Rattle.node_base.specs.Path.{Path}
use Rattle.node_base.specs.Tree.{PathMap, alone, grafted, new_dir}
use Rattle.node_base.specs.declared.node.Node.{Node}
use Rattle.path_tree.specs.Copies.{copy_too_long}
use Rattle.dump_load.specs.Faults.{fault_if}
use Rattle.tree_reports.specs.declared.depth.Depth.{Depth}
use Rattle.browse_wire.specs.Asks.{Ask, Update, Switch, Status, Diff}
use Rattle.browse_wire.specs.Urls.{Url, url_read}
use Rattle.browse_wire.specs.declared.depth.DepthWord.{DepthWord}
use Rattle.browse_wire.specs.declared.depth.DepthWord.TheVariants as said
use Rattle.repo_core.specs.Repository.{Repository}
use Rattle.ra_serve.specs.Answers.{asked, node_in}
use Rattle.ra_serve.specs.Ports.{tree_of}
use Rattle.ra_denial.specs.Denials.{no_revision, dir_denied}
use Rattle.ra_denial.specs.Places.{url_denied, moved_to}
use Rattle.ra_denial.specs.declared.denial.Denial.{Denial}
use Rattle.ra_denial.specs.declared.denial.Denial.TheVariants as denial
use Rattle.ra_report.specs.Shown.{depth_as}
use Rattle.ra_report.specs.declared.order.Order as declared

-- the commands that a report follows
abbrev pub awaits_report : Ask → Bool
awaits_report (Update n p d copies ignores) = true
awaits_report (Switch n p url d copies ignores) = true
awaits_report (Status n p d) = true
awaits_report (Diff n p url d ignores texts) = true
awaits_report c = false

-- how deep a command wants its target; none where it is as reported
abbrev pub depth_wanted : DepthWord → Option Depth
depth_wanted (said.Known d) = Some (depth_as d)
depth_wanted said.AsReported = None
depth_wanted said.Excluded = None

-- a target is the folder, or one name in it
abbrev pub is_short : Path → Bool
is_short [] = true
is_short (n ∷ []) = true
is_short (n ∷ m ∷ p) = false

-- another target isn't offered
abbrev pub part_denied : Path → Option Denial
part_denied p = fault_if (not (is_short p)) denial.Unsupported

-- a command without a URL: its target's path passes the limits
abbrev pub here_denied : Url → Path → Option Denial
here_denied at p = option_or (part_denied p) (fault_if (not (fits (at.1 ++ p))) denial.NoPath)

-- one with a URL: it isn't below the session's root
abbrev pub there_denied : Url → Path → List ℕ → Option Denial
there_denied at p url = option_or (part_denied p) (url_denied at (url_read url))

-- what is denied of a command before its report
abbrev pub order_denied : Url → Ask → Option Denial
order_denied at (Update n p d copies ignores) = here_denied at p
order_denied at (Switch n p url d copies ignores) = there_denied at p url
order_denied at (Status n p d) = here_denied at p
order_denied at (Diff n p url d ignores texts) = there_denied at p url
order_denied at c = Some denial.Unsupported

-- the revision that is wanted, the newest where none is named
abbrev pub revision_of : Ask → Option ℕ
revision_of (Update n p d copies ignores) = n
revision_of (Switch n p url d copies ignores) = n
revision_of (Status n p d) = n
revision_of (Diff n p url d ignores texts) = n
revision_of c = None

-- what of the folder is wanted alone: one name, or nothing where all is
abbrev pub target_of : Ask → Path
target_of (Update n p d copies ignores) = p
target_of (Switch n p url d copies ignores) = p
target_of (Status n p d) = p
target_of (Diff n p url d ignores texts) = p
target_of c = []

-- how deep that is looked at
abbrev pub depth_of : Ask → Option Depth
depth_of (Update n p d copies ignores) = depth_wanted d
depth_of (Switch n p url d copies ignores) = depth_wanted d
depth_of (Status n p d) = depth_wanted d
depth_of (Diff n p url d ignores texts) = depth_wanted d
depth_of c = None

-- the place of what is wanted: a URL's, or the target's own
abbrev pub place_of : Url → Ask → Path
place_of at (Switch n p url d copies ignores) = (moved_to at (url_read url)).1
place_of at (Diff n p url d ignores texts) = (moved_to at (url_read url)).1
place_of at c = at.1 ++ target_of c

-- of a tree: without a target a directory stands at the place; what stands there goes to the target's name
abbrev pub place_denied : PathMap → Path → Path → Option Denial
place_denied m p [] = dir_denied (finite.get m p)
place_denied m p (n ∷ t) = option_or (fault_if (not (is_short (n ∷ t))) denial.Unsupported) (fault_if (copy_too_long m p (n ∷ t)) denial.Unsupported)

-- no such revision, or that is denied of it
abbrev pub wanted_denied : Repository → Option ℕ → Path → Path → Option Denial
wanted_denied x n p t = option_or (no_revision x (asked x n)) (place_denied (tree_of x (asked x n)) p t)

-- what stands at the place is the folder, or stands alone in one, at the target's name
abbrev pub wanted_in : Repository → Option ℕ → Path → Path → Path → Option Node
wanted_in x n p t = grafted (alone new_dir) t (λ q. node_in x (asked x n) (p ++ q))

-- whether what is switched stays so: a command with a URL wants what is below that
abbrev pub keeps : Ask → Bool
keeps (Switch n p url d copies ignores) = false
keeps (Diff n p url d ignores texts) = false
keeps c = true

-- an order of a revision, a place, a target and a depth
abbrev pub Orders : Option ℕ → Path → Path → Option Depth → Bool → declared.Order → Type 0
Orders n p t d b o = (o.revision ≡ n) × (o.path ≡ p) × (o.target ≡ t) × (o.depth ≡ d) × (o.keeps ≡ b)

-- the order that a command is
abbrev pub IsOrder : Url → Ask → declared.Order → Type 0
IsOrder at c = Orders (revision_of c) (place_of at c) (target_of c) (depth_of c) (keeps c)
