-- Laws of sessions.
use Rattle.std.specs.Prelude.{◌≡◌, ◌≤◌, ℕ, false, List, [], ◌∷◌, ◌++◌, length, Ok, Err}
use Rattle.repo_core.specs.Repository.{Repository}
use Rattle.browse_wire.specs.Asks.{Ask}
use Rattle.browse_wire.specs.AskReading.{Reading, ask_in}
use Rattle.browse_wire.specs.Reports.{Report, report_in}
use Rattle.browse_wire.specs.Urls.{Url}
use Rattle.ra_browse.specs.Answers.{answer, behind}
use Rattle.ra_browse.specs.Laws.{IsReparent}
use Rattle.ra_report.specs.Edits.{finished}
use Rattle.ra_report.specs.Orders.{awaits_report}
use Rattle.ra_reader.specs.Standings.{Standing, Reporting, More, AtEnd, standing_at, ready_at, said_in}
use Rattle.ra_reader.specs.Sessions.{Turn, answers, stands, stands_behind}

-- ---- where no report is made

-- an item behind which no report follows
abbrev pub IsSingle : Reading → Type 0
IsSingle (Ok c) = awaits_report c ≡ false
IsSingle (Err f) = Unit {0}

abbrev pub AreSingle : List Turn → Type 0
AreSingle [] = Unit {0}
AreSingle (t ∷ ts) = IsSingle (ask_in t.item) × AreSingle ts

-- each item is told what the table of single commands has
abbrev pub single_answers : Repository → Url → List Turn → List ℕ
single_answers x at [] = []
single_answers x at (t ∷ ts) = answer x at (ask_in t.item) t.added.found t.added.halt ++ single_answers x (behind at (ask_in t.item)) ts

abbrev pub SinglesAreAnswered : Type 0
SinglesAreAnswered = (x : Repository) (at : Url) (ts : List Turn) → AreSingle ts → answers x (ready_at at) ts ≡ single_answers x at ts

-- ---- reports

-- these items say these commands of a report
abbrev pub Say : List Turn → List Report → Type 0
Say [] [] = Unit {0}
Say (t ∷ ts) (r ∷ rs) = (said_in (report_in t.item) ≡ More r) × Say ts rs
Say [] (r ∷ rs) = ⊥
Say (t ∷ ts) [] = ⊥

-- a report is answered whole, and nothing is told before its end
abbrev pub ReportsAreWhole : Type 0
ReportsAreWhole = (x : Repository) (at : Url) (c : Ask) (ts : List Turn) (rs : List Report) (t : Turn) → Say ts rs → length rs ≤ 65536 → said_in (report_in t.item) ≡ AtEnd
    → answers x (standing_at at (Reporting c [])) (ts ++ t ∷ []) ≡ finished x at c rs t.added.edit t.added.halt

-- ---- where a session stands

-- behind an item that isn't a `reparent`
abbrev pub IsElse : Reading → Type 0
IsElse (Ok c) = IsReparent c → ⊥
IsElse (Err f) = Unit {0}

abbrev pub OnlyReparentLeads : Type 0
OnlyReparentLeads = (s : Standing) (t : Turn) → IsElse (ask_in t.item) → (stands_behind s t).at ≡ s.at

abbrev pub StandsBelowOneRoot : Type 0
StandsBelowOneRoot = (s : Standing) (ts : List Turn) → (stands s ts).at.0 ≡ s.at.0
