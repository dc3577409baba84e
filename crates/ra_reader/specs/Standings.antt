-- Where a reading session stands, and what an item is told there.
use Rattle.std.specs.Prelude.{ℕ, nat_lt, List, [], ◌∷◌, ◌++◌, length, Option, Some, None, Ok, Err, codes, if◌then◌else◌}
use Rattle.ra_item.specs.Items.{Item, spell}
use Rattle.repo_core.specs.Repository.{Repository}
use Rattle.ra_wire.specs.Answers.{Reply, Success, Failure, reply_in}
use Rattle.ra_wire.specs.Replies.{answer_of, authorised, done, failure}
use Rattle.browse_wire.specs.Asks.{Ask}
use Rattle.browse_wire.specs.AskReading.{Reading, ask_in}
use Rattle.browse_wire.specs.Reports as reports
use Rattle.browse_wire.specs.Reports.{Report, Reported, SetPath, DeletePath, LinkPath, FinishReport, AbortReport, report_in}
use Rattle.browse_wire.specs.Urls.{Url}
use Rattle.ra_serve.specs.declared.fault.PortFault.{PortFault}
use Rattle.ra_denial.specs.Denials.{denied, unless_denied}
use Rattle.ra_denial.specs.Halts.{IsCalm}
use Rattle.ra_denial.specs.declared.denial.Denial.{Denial}
use Rattle.ra_denial.specs.declared.denial.Denial.TheVariants as denial
use Rattle.ra_browse.specs.Answers.{MayHalt, MayHave, answer, behind, no_ask}
use Rattle.ra_browse.specs.Histories.{Found}
use Rattle.ra_report.specs.Edits.{Edit, IsLawful, MayEdit, finished}
use Rattle.ra_report.specs.Orders.{awaits_report, order_denied}

-- what a session awaits: a command; what a working copy reports for one, behind what it has reported; the end of a report that is
-- denied; or what its client says of an edit
pub data Phase : Type 0 where
  Idle : Phase
  Reporting : Ask → List Report → Phase
  Spoilt : Denial → Phase
  Edited : Phase

pub record Standing : Type 0 where
  pub at : Url
  pub phase : Phase

abbrev pub standing_at : Url → Phase → Standing
standing_at at p = record { at = at; phase = p }

abbrev pub ready_at : Url → Standing
ready_at at = standing_at at Idle

-- what a session adds to an item: what it found of histories, the edit that it sent, and the port's own refusal
pub record Added : Type 0 where
  pub found : Found
  pub edit : Option Edit
  pub halt : Option PortFault

-- ---- a command

-- a report follows, or it is denied
abbrev pub ordered : Ask → Option Denial → Phase
ordered c None = Reporting c []
ordered c (Some d) = Idle

abbrev pub command_told : Repository → Url → Reading → Added → List ℕ
command_told x at (Ok c) a = if awaits_report c then unless_denied (order_denied at c) (spell authorised) else answer x at (Ok c) a.found a.halt
command_told x at (Err f) a = answer x at (Err f) a.found a.halt

abbrev pub behind_command : Url → Reading → Standing
behind_command at (Ok c) = if awaits_report c then standing_at at (ordered c (order_denied at c)) else ready_at (behind at (Ok c))
behind_command at (Err f) = ready_at at

abbrev pub CommandHas : Repository → Url → Reading → Added → Type 0
CommandHas x at read a = MayHave x at read a.halt a.found × MayHalt read a.halt

-- ---- a report

-- what an item says in a report: more of it, that it is at its end, that it is given up, or nothing, which spoils it
pub data Said : Type 0 where
  More : Report → Said
  AtEnd : Said
  GivenUp : Said
  Spoils : Denial → Said

-- a lock's token isn't kept
abbrev pub without_token : Reported → Reported
without_token r = record { path = r.path; revision = r.revision; start_empty = r.start_empty; token = None; depth = r.depth }

abbrev pub said_in : reports.Reading → Said
said_in (Ok (SetPath r)) = More (SetPath (without_token r))
said_in (Ok (DeletePath p)) = More (DeletePath p)
said_in (Ok (LinkPath r url)) = More (LinkPath (without_token r) url)
said_in (Ok FinishReport) = AtEnd
said_in (Ok AbortReport) = GivenUp
said_in (Err f) = Spoils (no_ask f)

-- it may have so many commands
abbrev pub more_said : Ask → List Report → Report → Phase
more_said c rs r = if nat_lt (length rs) 65536 then Reporting c (rs ++ r ∷ []) else Spoilt denial.Unsupported

-- the client is heard behind an edit alone
abbrev pub behind_edit : Option Edit → Phase
behind_edit None = Idle
behind_edit (Some e) = Edited

abbrev pub report_told : Repository → Url → Ask → List Report → Said → Added → List ℕ
report_told x at c rs (More r) a = []
report_told x at c rs AtEnd a = finished x at c rs a.edit a.halt
report_told x at c rs GivenUp a = spell done
report_told x at c rs (Spoils d) a = []

abbrev pub behind_report : Ask → List Report → Said → Added → Phase
behind_report c rs (More r) a = more_said c rs r
behind_report c rs AtEnd a = behind_edit a.edit
behind_report c rs GivenUp a = Idle
behind_report c rs (Spoils d) a = Spoilt d

abbrev pub ReportHas : Repository → Url → Ask → List Report → Said → Added → Type 0
ReportHas x at c rs (More r) a = IsCalm a.halt
ReportHas x at c rs AtEnd a = MayEdit x at c rs a.halt a.edit × IsLawful a.halt
ReportHas x at c rs GivenUp a = IsCalm a.halt
ReportHas x at c rs (Spoils d) a = IsCalm a.halt

-- ---- one that is denied

abbrev pub spoilt_told : Denial → Said → List ℕ
spoilt_told d (More r) = []
spoilt_told d AtEnd = denied d
spoilt_told d GivenUp = spell done
spoilt_told d (Spoils e) = []

abbrev pub behind_spoilt : Denial → Said → Phase
behind_spoilt d (More r) = Spoilt d
behind_spoilt d AtEnd = Idle
behind_spoilt d GivenUp = Idle
behind_spoilt d (Spoils e) = Spoilt d

-- ---- what a client says of an edit

abbrev pub abort_edit : Item
abort_edit = answer_of (codes "abort-edit") []

-- it was applied; or why not, which is told back; or another thing
abbrev pub edit_judged : Option Reply → List ℕ
edit_judged (Some (Success content)) = spell done
edit_judged (Some (Failure (f ∷ fs))) = spell abort_edit ++ spell (failure f.number f.text)
edit_judged (Some (Failure [])) = spell abort_edit ++ denied denial.BadShape
edit_judged None = spell abort_edit ++ denied denial.BadShape

-- ---- each of them

-- what an item is told
abbrev pub told_at : Repository → Url → Phase → Item → Added → List ℕ
told_at x at Idle item a = command_told x at (ask_in item) a
told_at x at (Reporting c rs) item a = report_told x at c rs (said_in (report_in item)) a
told_at x at (Spoilt d) item a = spoilt_told d (said_in (report_in item))
told_at x at Edited item a = edit_judged (reply_in item)

-- where it leads
abbrev pub leads_to : Url → Phase → Item → Added → Standing
leads_to at Idle item a = behind_command at (ask_in item)
leads_to at (Reporting c rs) item a = standing_at at (behind_report c rs (said_in (report_in item)) a)
leads_to at (Spoilt d) item a = standing_at at (behind_spoilt d (said_in (report_in item)))
leads_to at Edited item a = ready_at at

-- what may be added to it
abbrev pub HasAt : Repository → Url → Phase → Item → Added → Type 0
HasAt x at Idle item a = CommandHas x at (ask_in item) a
HasAt x at (Reporting c rs) item a = ReportHas x at c rs (said_in (report_in item)) a
HasAt x at (Spoilt d) item a = IsCalm a.halt
HasAt x at Edited item a = IsCalm a.halt
