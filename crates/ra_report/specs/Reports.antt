-- What a working copy reports that it has, command by command. The nodes' numbers don't count.
use Rattle.std.specs.Prelude.{ℕ, Bool, true, false, not, ◌&&◌, List, [], ◌∷◌, ◌++◌, map, length, nat_lt, Option, Some, None, is_some, is_none, if◌then◌else◌}
use Rattle.std.specs.Option.{option_map_or, option_or}
use Rattle.std.specs.FinMap as finite
use Rattle.node_base.specs.Limits.{fits}
use Rattle.node_base.specs.Path.{Path, same_path}
use Rattle.node_base.specs.Tree.{PathMap}
use Rattle.node_base.specs.declared.node.Node.{Node}
use Rattle.path_tree.specs.Copies.{copy_too_long}
use Rattle.dump_load.specs.Faults.{fault_if}
use Rattle.tree_reports.specs.Reports.{brought_within, leave_fault, placed, report_fault}
use Rattle.tree_reports.specs.declared.error.ReportError.{ReportError}
use Rattle.tree_reports.specs.declared.error.ReportError.TheVariants as error
use Rattle.browse_wire.specs.Reports.{Report, Reported, SetPath, DeletePath, LinkPath, FinishReport, AbortReport}
use Rattle.browse_wire.specs.Urls.{Url, url_read}
use Rattle.repo_core.specs.Repository.{Repository}
use Rattle.ra_serve.specs.Ports.{tree_of}
use Rattle.ra_denial.specs.Denials.{no_revision, dir_denied}
use Rattle.ra_denial.specs.Places.{url_denied, moved_to}
use Rattle.ra_denial.specs.declared.denial.Denial.{Denial}
use Rattle.ra_denial.specs.declared.denial.Denial.TheVariants as denial
use Rattle.ra_denial.specs.declared.stop.Stop.{Stop}
use Rattle.ra_denial.specs.declared.stop.Stop.TheVariants as stop
use Rattle.ra_report.specs.Shown.{Known, bare, brought, shown_of}
use Rattle.ra_report.specs.Switches.{lies}
use Rattle.ra_report.specs.declared.shown.Shown.{Shown}
use Rattle.ra_report.specs.declared.shown.Shown.TheVariants as shown
use Rattle.ra_report.specs.declared.switched.Switched.{Switched}

-- ---- one path

-- something above a path is no directory
abbrev pub is_blocked : Known → Path → Bool
is_blocked k [] = false
is_blocked k (n ∷ p) = option_map_or (λ c. if is_some c.text then true else is_blocked (λ q. k (n ∷ q)) p) (k []) true

-- of a path that isn't left out: nothing is at its source; or paths there would pass the limits
abbrev pub source_fault : Shown → PathMap → Path → Path → Option Denial
source_fault shown.Emptied from source p = fault_if (is_none (finite.get from source)) denial.NoPath
source_fault (shown.Within d) from source p = option_or (fault_if (is_none (finite.get from source)) denial.NoPath) (fault_if (copy_too_long from source p) denial.Unsupported)
source_fault shown.LeftOut from source p = None

-- a path isn't taken: it is the folder, or something above it is no directory; or its source is at fault
abbrev pub placing_denied : Known → Path → PathMap → Path → Shown → Option Denial
placing_denied k p from source s =
    option_or (fault_if (same_path p []) denial.BadReport)
    (option_or (fault_if (is_blocked k p) denial.BadReport) (source_fault s from source p))

-- the same of a source in a revision
abbrev pub source_denied : Repository → Known → Reported → Path → Option Denial
source_denied x k r source = option_or (no_revision x r.revision) (placing_denied k r.path (tree_of x r.revision) source (shown_of r))

-- what stands at a source of a revision stands at a path, and the rest is as before
abbrev pub with_source : Repository → Known → Reported → Path → Known
with_source x k r source = placed k r.path (brought (shown_of r) (tree_of x r.revision) source)

-- ---- the folder or the target, which is reported first

-- the folder is a directory, unless it begins empty
abbrev pub folder_denied : Shown → Option Node → Option Denial
folder_denied shown.Emptied o = None
folder_denied (shown.Within d) o = dir_denied o
folder_denied shown.LeftOut o = None

-- a target may begin where nothing stands at its source
abbrev pub target_denied : Path → Shown → PathMap → Path → Option Denial
target_denied t s m source = if is_none (finite.get m source) then None else placing_denied bare t m source s

-- where a target is, or nothing, it may begin
abbrev pub begun_denied : Path → Shown → PathMap → Path → Option Denial
begun_denied [] s m source = folder_denied s (finite.get m source)
begun_denied (n ∷ t) s m source = target_denied (n ∷ t) s m source

abbrev pub begin_denied : Repository → Url → Path → Report → Option Denial
begin_denied x at t (SetPath r) =
    option_or (fault_if (not (same_path r.path t)) denial.BadReport)
    (option_or (fault_if (not (fits (at.1 ++ t))) denial.NoPath)
    (option_or (no_revision x r.revision) (begun_denied t (shown_of r) (tree_of x r.revision) (at.1 ++ t))))
begin_denied x at t c = Some denial.BadReport

-- so much of the folder as it stands there, or a directory alone
abbrev pub folder_begun : Shown → PathMap → Path → Known
folder_begun shown.Emptied m source = bare
folder_begun (shown.Within d) m source = brought_within d m source
folder_begun shown.LeftOut m source = bare

-- a target stands alone in a directory, with nothing where nothing stands at its source
abbrev pub target_begun : Path → Shown → PathMap → Path → Known
target_begun t s m source = if is_none (finite.get m source) then bare else placed bare t (brought s m source)

abbrev pub begun : Path → Shown → PathMap → Path → Known
begun [] s m source = folder_begun s m source
begun (n ∷ t) s m source = target_begun (n ∷ t) s m source

abbrev pub begin_known : Repository → Url → Path → Report → Known
begin_known x at t (SetPath r) = begun t (shown_of r) (tree_of x r.revision) (at.1 ++ t)
begin_known x at t c = λ _. None

-- the revision that it is known at
abbrev pub base_in : Report → Option ℕ
base_in (SetPath r) = Some r.revision
base_in c = None

-- ---- a later command

-- what is known at each path, and what is switched
pub record Having : Type 0 where
  pub known : Known
  pub switches : List Switched

abbrev pub having : Known → List Switched → Having
having k ss = record { known = k; switches = ss }

-- where a path lies
abbrev pub lying : Url → Having → Path → Path
lying at h p = lies p (at.1 ++ p) h.switches

-- no more paths may be switched than 1,024
abbrev pub links_denied : List Switched → Option Denial
links_denied ss = fault_if (not (nat_lt (length ss) 1024)) denial.Unsupported

abbrev pub next_denied : Repository → Url → Having → Report → Option Denial
next_denied x at h (SetPath r) = option_or (fault_if (not (fits (lying at h r.path))) denial.NoPath) (source_denied x h.known r (lying at h r.path))
next_denied x at h (LinkPath r url) = option_or (links_denied h.switches) (option_or (url_denied at (url_read url)) (source_denied x h.known r (moved_to at (url_read url)).1))
next_denied x at h (DeletePath p) = fault_if (same_path p []) denial.BadReport
next_denied x at h FinishReport = Some denial.BadReport
next_denied x at h AbortReport = Some denial.BadReport

-- a path that a place stands at
abbrev pub switched : Path → Path → Switched
switched p place = record { path = p; place = place }

abbrev pub next : Repository → Url → Having → Report → Having
next x at h (SetPath r) = having (with_source x h.known r (lying at h r.path)) h.switches
next x at h (LinkPath r url) = having (with_source x h.known r (moved_to at (url_read url)).1) (h.switches ++ switched r.path (moved_to at (url_read url)).1 ∷ [])
next x at h (DeletePath p) = having (placed h.known p (λ _. None)) h.switches
next x at h FinishReport = h
next x at h AbortReport = h

-- ---- a target

-- a path behind a target; a lock's token counts for nothing
abbrev pub behind : Path → Reported → Reported
behind t r = record { path = t ++ r.path; revision = r.revision; start_empty = r.start_empty; token = None; depth = r.depth }

-- a command of a target as one of the folder
abbrev pub aimed : Path → Report → Report
aimed t (SetPath r) = SetPath (behind t r)
aimed t (LinkPath r url) = LinkPath (behind t r) url
aimed t (DeletePath p) = DeletePath (t ++ p)
aimed t FinishReport = FinishReport
aimed t AbortReport = AbortReport

-- a path passes the limits there
abbrev pub aim_denied : Path → Report → Option Denial
aim_denied t (SetPath r) = fault_if (not (fits (t ++ r.path))) denial.NoPath
aim_denied t (LinkPath r url) = fault_if (not (fits (t ++ r.path))) denial.NoPath
aim_denied t (DeletePath p) = fault_if (not (fits (t ++ p))) denial.NoPath
aim_denied t FinishReport = None
aim_denied t AbortReport = None

abbrev pub aims_denied : Path → List Report → Option Denial
aims_denied t [] = None
aims_denied t (c ∷ cs) = option_or (aim_denied t c) (aims_denied t cs)

-- ---- below a target

-- the path is below the target, which isn't there
abbrev pub is_beneath : Path → Known → Path → Bool
is_beneath t k p = is_none (k t) && not (same_path p t)

-- it sets or links such a path
abbrev pub is_void : Path → Known → Report → Bool
is_void t k (SetPath r) = is_beneath t k r.path
is_void t k (LinkPath r url) = is_beneath t k r.path
is_void t k (DeletePath p) = false
is_void t k FinishReport = false
is_void t k AbortReport = false

-- nothing is there then; a link says where what is wanted stands, where a folder is wanted above it
abbrev pub void_denied : Url → List Switched → Report → Option Denial
void_denied at ss (LinkPath r url) = option_or (links_denied ss) (url_denied at (url_read url))
void_denied at ss c = None

abbrev pub voided : Url → List Switched → Report → List Switched
voided at ss (LinkPath r url) = ss ++ switched r.path (moved_to at (url_read url)).1 ∷ []
voided at ss c = ss

abbrev pub heeded_denied : Repository → Url → Path → Having → Report → Option Denial
heeded_denied x at t h c = if is_void t h.known c then void_denied at h.switches c else next_denied x at h c

abbrev pub heeded : Repository → Url → Path → Having → Report → Having
heeded x at t h c = if is_void t h.known c then having h.known (voided at h.switches c) else next x at h c

-- ---- all of them

abbrev pub later_denied : Repository → Url → Path → Having → List Report → Option Denial
later_denied x at t h [] = None
later_denied x at t h (c ∷ cs) = option_or (heeded_denied x at t h c) (later_denied x at t (heeded x at t h c) cs)

abbrev pub later : Repository → Url → Path → Having → List Report → Having
later x at t h [] = h
later x at t h (c ∷ cs) = later x at t (heeded x at t h c) cs

-- of commands with their paths behind a target
abbrev pub whole_denied : Repository → Url → Path → List Report → Option Denial
whole_denied x at t [] = Some denial.BadReport
whole_denied x at t (c ∷ cs) = option_or (begin_denied x at t c) (later_denied x at t (having (begin_known x at t c) []) cs)

abbrev pub whole : Repository → Url → Path → List Report → Having
whole x at t [] = having (λ _. None) []
whole x at t (c ∷ cs) = later x at t (having (begin_known x at t c) []) cs

-- why a report isn't taken
abbrev pub reports_denied : Repository → Url → Path → List Report → Option Denial
reports_denied x at t cs = option_or (aims_denied t cs) (whole_denied x at t (map (aimed t) cs))

-- what is reported
abbrev pub reported : Repository → Url → Path → List Report → Having
reported x at t cs = whole x at t (map (aimed t) cs)

abbrev pub base_of : List Report → Option ℕ
base_of [] = None
base_of (c ∷ cs) = base_in c

-- ---- as a report's calls answer it

abbrev pub shown_fault : Shown → PathMap → Path → PathMap → Path → Option ReportError
shown_fault shown.Emptied m p from source = report_fault m p from source true
shown_fault (shown.Within d) m p from source = report_fault m p from source false
shown_fault shown.LeftOut m p from source = leave_fault m p

-- ---- as errors of a report are told

abbrev pub error_stop : ReportError → Stop
error_stop error.Root = stop.Denied denial.BadReport
error_stop error.NoFolder = stop.Denied denial.BadReport
error_stop error.NotThere = stop.Denied denial.NoPath
error_stop error.TooLong = stop.Denied denial.Unsupported
error_stop error.OutOfMemory = stop.OutOfMemory
