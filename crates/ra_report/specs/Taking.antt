-- What the calls that take a report say of their port.
use Rattle.std.specs.Prelude.{◌≡◌, ◌∷◌, ◌++◌, [], ℕ, List, Result, Some, map}
use Rattle.std.specs.Option.{option_or}
use Rattle.node_base.specs.Path.{Path}
use Rattle.node_base.specs.Tree.{PathMap}
use Rattle.tree_reports.specs.Reports.{content_at}
use Rattle.browse_wire.specs.Reports.{Report, report_as, reported_as}
use Rattle.browse_wire.specs.declared.report.ReportCommand.{ReportCommand}
use Rattle.browse_wire.specs.declared.report.Reported as declared_reported
use Rattle.browse_wire.specs.declared.url.SessionUrl.{SessionUrl}
use Rattle.ra_serve.specs.Ports.{tree_of}
use Rattle.ra_serve.specs.declared.port.RepoPort.{Ghosts}
use Rattle.ra_denial.specs.Denials.{no_revision}
use Rattle.ra_denial.specs.Places.{place_as}
use Rattle.ra_denial.specs.Stops.{Finds}
use Rattle.ra_denial.specs.declared.stop.Stop.{Stop}
use Rattle.ra_report.specs.Given.{path_denied}
use Rattle.ra_report.specs.Plans.{IsCopy}
use Rattle.ra_report.specs.Reports.{Having, having, base_in, base_of, begin_denied, begin_known, begun, begun_denied, heeded, heeded_denied, later, later_denied}
use Rattle.ra_report.specs.Reports.{next, next_denied, reported, reports_denied, source_denied, switched, whole, whole_denied, with_source}
use Rattle.ra_report.specs.declared.plan.WorkingCopy.{WorkingCopy}
use Rattle.ra_report.specs.declared.shown.Shown.{Shown}
use Rattle.ra_report.specs.declared.switched.Switched.{Switched}

-- what a report knows at each path, with what is switched
abbrev pub known_in : PathMap → List Switched → Having
known_in report ss = having (content_at report) ss

-- of a working copy
abbrev pub copied_in : WorkingCopy → Having
copied_in copy = known_in copy.report copy.switches.items

-- ---- a working copy

-- the working copy of a report
abbrev pub FindsCopy : {P : Type 0} → Ghosts P → P → P → SessionUrl → Path → List ReportCommand → Result WorkingCopy Stop → Type 0
FindsCopy G old new place t report result =
    Finds G (λ x. reports_denied x (place_as place) t (map report_as report)) (λ x c. IsCopy (reported x (place_as place) t (map report_as report)) (base_of (map report_as report)) c) old new result

-- of commands with their paths behind the target
abbrev pub FindsWhole : {P : Type 0} → Ghosts P → P → P → SessionUrl → Path → List ReportCommand → Result WorkingCopy Stop → Type 0
FindsWhole G old new place t report result =
    Finds G (λ x. whole_denied x (place_as place) t (map report_as report)) (λ x c. IsCopy (whole x (place_as place) t (map report_as report)) (base_of (map report_as report)) c) old new result

-- what the first command begins
abbrev pub Begins : {P : Type 0} → Ghosts P → P → P → SessionUrl → Path → Report → Result WorkingCopy Stop → Type 0
Begins G old new place t c result =
    Finds G (λ x. begin_denied x (place_as place) t c) (λ x w. IsCopy (having (begin_known x (place_as place) t c) []) (base_in c) w) old new result

-- so much of a source in a revision
abbrev pub BeginsAt : {P : Type 0} → Ghosts P → P → P → Path → Path → ℕ → Shown → Result WorkingCopy Stop → Type 0
BeginsAt G old new source t n shown result =
    Finds G (λ x. option_or (no_revision x n) (begun_denied t shown (tree_of x n) source)) (λ x c. IsCopy (having (begun t shown (tree_of x n) source) []) (Some n) c) old new result

-- the same, unless the source's path passes the limits
abbrev pub BeginsHere : {P : Type 0} → Ghosts P → P → P → Path → Path → ℕ → Shown → Result WorkingCopy Stop → Type 0
BeginsHere G old new source t n shown result =
    Finds G (λ x. option_or (path_denied source) (option_or (no_revision x n) (begun_denied t shown (tree_of x n) source))) (λ x c. IsCopy (having (begun t shown (tree_of x n) source) []) (Some n) c) old new result

-- the later commands make another working copy of one
abbrev pub GoesOn : {P : Type 0} → Ghosts P → P → P → WorkingCopy → SessionUrl → Path → List ReportCommand → Result WorkingCopy Stop → Type 0
GoesOn G old new copy place t rest result =
    Finds G (λ x. later_denied x (place_as place) t (copied_in copy) (map report_as rest)) (λ x c. IsCopy (later x (place_as place) t (copied_in copy) (map report_as rest)) (Some copy.base) c) old new result

-- ---- commands, by what is known and switched before and after

-- all later ones
abbrev pub HeedsAll : {P : Type 0} → Ghosts P → P → P → Having → Having → SessionUrl → Path → List ReportCommand → Result (Unit {0}) Stop → Type 0
HeedsAll G old new before after place t rest result =
    Finds G (λ x. later_denied x (place_as place) t before (map report_as rest)) (λ x _. after ≡ later x (place_as place) t before (map report_as rest)) old new result

-- one, which may be below a target that isn't there
abbrev pub Heeds : {P : Type 0} → Ghosts P → P → P → Having → Having → SessionUrl → Path → ReportCommand → Result (Unit {0}) Stop → Type 0
Heeds G old new before after place t c result =
    Finds G (λ x. heeded_denied x (place_as place) t before (report_as c)) (λ x _. after ≡ heeded x (place_as place) t before (report_as c)) old new result

-- one that counts
abbrev pub Takes : {P : Type 0} → Ghosts P → P → P → Having → Having → SessionUrl → Report → Result (Unit {0}) Stop → Type 0
Takes G old new before after place c result =
    Finds G (λ x. next_denied x (place_as place) before c) (λ x _. after ≡ next x (place_as place) before c) old new result

-- a path as it stands at another URL's place
abbrev pub TakesLink : {P : Type 0} → Ghosts P → P → P → Having → Having → declared_reported.Reported → Path → Result (Unit {0}) Stop → Type 0
TakesLink G old new before after path source result =
    Finds G (λ x. source_denied x before.known (reported_as path) source)
    (λ x _. after ≡ having (with_source x before.known (reported_as path) source) (before.switches ++ switched path.path source ∷ [])) old new result

-- a path as it stands at a source
abbrev pub Brings : {P : Type 0} → Ghosts P → P → P → PathMap → PathMap → declared_reported.Reported → Path → Result (Unit {0}) Stop → Type 0
Brings G old new before after path source result =
    Finds G (λ x. source_denied x (content_at before) (reported_as path) source) (λ x _. (q : Path) → content_at after q ≡ with_source x (content_at before) (reported_as path) source q) old new result
