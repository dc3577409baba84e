-- What the calls that plan and send an edit say of their port and their writer.
use Rattle.std.specs.Prelude.{◌≡◌, [], ℕ, suc, take, Bool, IfOk, List, Option, Result, Some, map}
use Rattle.std.specs.Option.{option_or}
use Rattle.std.specs.FinMap as finite
use Rattle.std.specs.declared.io.Write.{Ghosts as WriteGhosts}
use Rattle.uuid.specs.Text.{hyphenated_text, lower}
use Rattle.node_base.specs.Path.{Path, same_path}
use Rattle.node_base.specs.Props.{PropMap}
use Rattle.browse_wire.specs.Asks.{Ask, ask_as}
use Rattle.browse_wire.specs.Reports.{report_as}
use Rattle.browse_wire.specs.declared.ask.BrowseCommand.{BrowseCommand}
use Rattle.browse_wire.specs.declared.report.ReportCommand.{ReportCommand}
use Rattle.browse_wire.specs.declared.url.SessionUrl.{SessionUrl}
use Rattle.ra_serve.specs.declared.port.RepoPort.{Ghosts}
use Rattle.ra_denial.specs.Denials.{no_revision}
use Rattle.ra_denial.specs.Places.{place_as}
use Rattle.ra_denial.specs.Stops.{Finds}
use Rattle.ra_denial.specs.declared.stop.Stop.{Stop}
use Rattle.ra_report.specs.Edits.{Edit, all_props, edit_denied, report_denied}
use Rattle.ra_report.specs.Finishing.{Finishes}
use Rattle.ra_report.specs.Orders.{depth_of, keeps, place_of, revision_of, target_of, wanted_denied, wanted_in}
use Rattle.ra_report.specs.Plans.{IsFullPlan, IsPlan, IsPlanOf, IsWanted, TellsPlan}
use Rattle.ra_report.specs.Reports.{base_of, reported, reports_denied}
use Rattle.ra_report.specs.Switches.{kept, switches_denied}
use Rattle.ra_report.specs.Taking.{copied_in}
use Rattle.ra_report.specs.declared.order.Order.{Order}
use Rattle.ra_report.specs.declared.plan.Plan.{Plan}
use Rattle.ra_report.specs.declared.plan.Wanted.{Wanted}
use Rattle.ra_report.specs.declared.plan.WorkingCopy.{WorkingCopy}

-- ---- what is looked up

-- what stands at a place of a revision
abbrev pub LooksUp : {P : Type 0} → Ghosts P → P → P → Option ℕ → Path → Path → Result Wanted Stop → Type 0
LooksUp G old new n place t result = Finds G (λ x. wanted_denied x n place t) (λ x w. IsWanted x n (wanted_in x n place t) w) old new result

-- the properties of one revision more
abbrev pub AddsProps : {P : Type 0} → Ghosts P → P → P → List PropMap → List PropMap → ℕ → Result (Unit {0}) Stop → Type 0
AddsProps G old new before after n result = Finds G (λ x. no_revision x n) (λ x _. before ≡ take n (all_props x) → after ≡ take (suc n) (all_props x)) old new result

-- ---- plans

-- the plan that answers a command and its report
abbrev pub Plans : {P : Type 0} → Ghosts P → P → P → SessionUrl → Ask → List ReportCommand → Result Plan Stop → Type 0
Plans G old new place c report result =
    Finds G (λ x. report_denied x (place_as place) c (map report_as report))
    (λ x p. IsPlan x (place_as place) (revision_of c) (place_of (place_as place) c) (target_of c) (depth_of c) (keeps c) (map report_as report) p) old new result

-- that answers an order
abbrev pub PlansBy : {P : Type 0} → Ghosts P → P → P → SessionUrl → Order → List ReportCommand → Result Plan Stop → Type 0
PlansBy G old new place o report result =
    Finds G (λ x. edit_denied x (place_as place) o.revision o.path o.target o.keeps (map report_as report))
    (λ x p. IsPlan x (place_as place) o.revision o.path o.target o.depth o.keeps (map report_as report) p) old new result

-- the same with all that is wanted
abbrev pub PlansFully : {P : Type 0} → Ghosts P → P → P → SessionUrl → Order → List ReportCommand → Result Plan Stop → Type 0
PlansFully G old new place o report result =
    Finds G (λ x. edit_denied x (place_as place) o.revision o.path o.target o.keeps (map report_as report))
    (λ x p. IsFullPlan x (place_as place) o.revision o.path o.target o.keeps (map report_as report) p) old new result

-- of what stands at the place and of a report
abbrev pub PlansFrom : {P : Type 0} → Ghosts P → P → P → SessionUrl → Order → Wanted → List ReportCommand → Result Plan Stop → Type 0
PlansFrom G old new place o w report result =
    Finds G
    (λ x. option_or (reports_denied x (place_as place) o.target (map report_as report))
    (option_or (switches_denied (finite.get w.tree) w.whole (kept o.keeps (reported x (place_as place) o.target (map report_as report)).switches)) (no_revision x w.number)))
    (λ x p. IsPlanOf x (reported x (place_as place) o.target (map report_as report)) (base_of (map report_as report)) o.keeps (same_path o.target []) w p) old new result

-- of what stands at the place and of a working copy
abbrev pub PlansWith : {P : Type 0} → Ghosts P → P → P → Order → Wanted → WorkingCopy → Result Plan Stop → Type 0
PlansWith G old new o w copy result =
    Finds G (λ x. option_or (switches_denied (finite.get w.tree) w.whole (kept o.keeps copy.switches.items)) (no_revision x w.number))
    (λ x p. IsPlanOf x (copied_in copy) (Some copy.base) o.keeps (same_path o.target []) w p) old new result

-- ---- what is written

-- a plan's edit is behind what a writer had
abbrev pub Sends : {W E : Type 0} → WriteGhosts W → W → Plan → (Edit → List ℕ) → Result W E → Type 0
Sends G out plan spelled result = IfOk result (λ w. TellsPlan plan (hyphenated_text lower plan.identity) spelled (G.contents out) (G.contents w))

-- the answer to a report is, and whether an edit was sent
abbrev pub EndsReport : {P W E : Type 0} → Ghosts P → WriteGhosts W → P → P → W → SessionUrl → BrowseCommand → List ReportCommand → Result (W × Bool) E → Type 0
EndsReport G H old new out place c report result =
    IfOk result (λ r. Finishes G.repository G.refusals H.contents (place_as place) (ask_as c) (map report_as report) old new out r.0 r.1)
