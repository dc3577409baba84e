-- What calls that ask no port come to.
use Rattle.std.specs.Prelude.{◌≡◌, ◌∷◌, ◌++◌, [], ℕ, Bool, IfOk, List, Option, Result, map, not}
use Rattle.std.specs.Option.{option_or}
use Rattle.std.specs.FinMap as finite
use Rattle.node_base.specs.Limits.{fits}
use Rattle.node_base.specs.Path.{Path}
use Rattle.node_base.specs.Tree.{PathMap, alone, grafted, new_dir}
use Rattle.node_base.specs.declared.node.Node.{Node}
use Rattle.dump_load.specs.Faults.{fault_if}
use Rattle.tree_reports.specs.Folders.{in_folder}
use Rattle.tree_reports.specs.Reports.{content_at, placed}
use Rattle.tree_reports.specs.Trees.{HasNodes}
use Rattle.tree_reports.specs.declared.depth.Depth.{Depth}
use Rattle.tree_reports.specs.declared.sparse.Limit.{Limit}
use Rattle.browse_wire.specs.Depths.{word_of}
use Rattle.browse_wire.specs.Reports.{report_as}
use Rattle.browse_wire.specs.Urls.{Url, url_read}
use Rattle.browse_wire.specs.declared.depth.Depth as wire
use Rattle.browse_wire.specs.declared.report.ReportCommand.{ReportCommand}
use Rattle.ra_denial.specs.Places.{moved_to, url_denied}
use Rattle.ra_denial.specs.Stops.{Decides}
use Rattle.ra_denial.specs.declared.denial.Denial.{Denial}
use Rattle.ra_denial.specs.declared.denial.Denial.TheVariants as denial
use Rattle.ra_denial.specs.declared.stop.Stop.{Stop}
use Rattle.ra_report.specs.Orders.{Orders, depth_wanted, place_denied}
use Rattle.ra_report.specs.Reports.{aim_denied, aimed, begun, begun_denied, links_denied, switched, void_denied, voided}
use Rattle.ra_report.specs.Shown.{Known}
use Rattle.ra_report.specs.Switches.{switch_denied, switches_denied, with_switch, with_switches}
use Rattle.ra_report.specs.Trimmed.{had_by, trimmed_by}
use Rattle.ra_report.specs.declared.order.Order as declared_order
use Rattle.ra_report.specs.declared.plan.Wanted as declared_wanted
use Rattle.ra_report.specs.declared.plan.WorkingCopy as declared_copy
use Rattle.ra_report.specs.declared.shown.Shown.{Shown}
use Rattle.ra_report.specs.declared.switched.Switched.{Switched}

-- ---- paths

-- a path passes the limits
abbrev pub path_denied : Path → Option Denial
path_denied p = fault_if (not (fits p)) denial.NoPath

-- a path, unless it does
abbrev pub GivesPath : Path → Result Path Stop → Type 0
GivesPath p result = Decides (path_denied p) (λ q. q ≡ p) result

-- a URL isn't below the session's root
abbrev pub link_denied : Url → List ℕ → Option Denial
link_denied at url = url_denied at (url_read url)

-- the path that it leads to
abbrev pub link_place : Url → List ℕ → Path
link_place at url = (moved_to at (url_read url)).1

-- ---- orders

-- an order by a depth as it is asked, where nothing is denied
abbrev pub GivesOrder : Option Denial → Option ℕ → Path → Path → Option wire.Depth → Bool → Result declared_order.Order Stop → Type 0
GivesOrder due n p t depth keeps result = Decides due (Orders n p t (depth_wanted (word_of depth)) keeps) result

-- commands get one more behind them, of a target
abbrev pub AddsAimed : List ReportCommand → List ReportCommand → Path → ReportCommand → Result (Unit {0}) Stop → Type 0
AddsAimed old new t c result = Decides (aim_denied t (report_as c)) (λ _. map report_as new ≡ map report_as old ++ aimed t (report_as c) ∷ []) result

-- ---- trees and reports

-- what stands at a place stands alone at a target's name
abbrev pub alone_at : PathMap → Path → Path → Path → Option Node
alone_at tree place t = grafted (alone new_dir) t (in_folder tree place)

-- a tree of these nodes, where nothing is denied
abbrev pub GivesTree : Option Denial → (Path → Option Node) → Result PathMap Stop → Type 0
GivesTree due f result = Decides due (λ t. HasNodes t f) result

-- a report of that content
abbrev pub GivesReport : Option Denial → Known → Result PathMap Stop → Type 0
GivesReport due known result = Decides due (λ r. (q : Path) → content_at r q ≡ known q) result

-- a report has this at a path and below it
abbrev pub Places : Option Denial → PathMap → PathMap → Path → Known → Result (Unit {0}) Stop → Type 0
Places due old new p given result = Decides due (λ _. (q : Path) → content_at new q ≡ placed (content_at old) p given q) result

-- so much of a target begins a working copy
abbrev pub BeginsCopy : PathMap → Path → Path → Shown → ℕ → Result declared_copy.WorkingCopy Stop → Type 0
BeginsCopy tree source t shown base result = Decides (begun_denied t shown tree source) (λ c. (c.base ≡ base) × (c.switches.items ≡ []) × ((q : Path) → content_at c.report q ≡ begun t shown tree source q)) result

-- what stands at a place is wanted at a target's name
abbrev pub BeginsWanted : PathMap → Path → Path → ℕ → Result declared_wanted.Wanted Stop → Type 0
BeginsWanted whole place t number result = Decides (place_denied whole place t) (λ w. (w.number ≡ number) × (w.whole ≡ whole) × HasNodes w.tree (alone_at whole place t)) result

-- ---- what is switched

-- a link to nothing, or no link: what is switched behind it
abbrev pub PassesOver : List Switched → List Switched → Url → ReportCommand → Result (Unit {0}) Stop → Type 0
PassesOver old new at c result = Decides (void_denied at old (report_as c)) (λ _. new ≡ voided at old (report_as c)) result

-- a path is switched to another URL
abbrev pub PassesLink : List Switched → List Switched → Url → Path → List ℕ → Result (Unit {0}) Stop → Type 0
PassesLink old new at p url result = Decides (option_or (links_denied old) (link_denied at url)) (λ _. new ≡ old ++ switched p (link_place at url) ∷ []) result

-- what is switched is wanted where it is
abbrev pub Follows : PathMap → PathMap → PathMap → List Switched → Result (Unit {0}) Stop → Type 0
Follows old new whole ss result = Decides (switches_denied (finite.get old) whole ss) (λ _. HasNodes new (with_switches (finite.get old) whole ss)) result

-- one path that is
abbrev pub FollowsOne : PathMap → PathMap → PathMap → Switched → Result (Unit {0}) Stop → Type 0
FollowsOne old new whole s result = Decides (switch_denied (finite.get old) whole s) (λ _. HasNodes new (with_switch (finite.get old) whole s)) result

-- ---- what is left out

-- so much of what is wanted as limits leave and a depth takes
abbrev pub TrimsWanted : {E : Type 0} → declared_wanted.Wanted → Option Depth → Path → List Limit → Result declared_wanted.Wanted E → Type 0
TrimsWanted all depth t ls result = IfOk result (λ w. (w.number ≡ all.number) × (w.whole ≡ all.whole) × HasNodes w.tree (trimmed_by depth t ls (finite.get all.tree)))

-- so much of a working copy
abbrev pub TrimsCopy : {E : Type 0} → declared_copy.WorkingCopy → Option Depth → Path → List Limit → PathMap → Result declared_copy.WorkingCopy E → Type 0
TrimsCopy copy depth t ls full result =
    IfOk result (λ c. (c.base ≡ copy.base) × (c.switches.items ≡ copy.switches.items) × ((q : Path) → content_at c.report q ≡ had_by depth t ls (finite.get full) (content_at copy.report) q))
