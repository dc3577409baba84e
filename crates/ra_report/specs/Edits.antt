-- The edit that answers a report, and what is told in its place.
use Rattle.std.specs.Prelude.{◌≡◌, ℕ, suc, take, Bool, true, false, List, [], ◌∷◌, ◌++◌, map, Option, Some, None}
use Rattle.std.specs.Option.{option_or}
use Rattle.std.specs.FinMap as finite
use Rattle.node_base.specs.Path.{Path, same_path}
use Rattle.node_base.specs.Props.{PropMap}
use Rattle.node_base.specs.Tree.{PathMap}
use Rattle.node_base.specs.declared.node.Node.{Node}
use Rattle.dump_load.specs.declared.change.Change.{Change}
use Rattle.delta_editor.specs.declared.call.Call.{Call}
use Rattle.ra_item.specs.Items.{spell}
use Rattle.ra_edit.specs.Commands.{edit_bytes}
use Rattle.ra_wire.specs.Replies.{authorised}
use Rattle.browse_wire.specs.Asks.{Ask}
use Rattle.browse_wire.specs.Reports.{Report}
use Rattle.browse_wire.specs.Urls.{Url}
use Rattle.repo_core.specs.Repository.{Repository}
use Rattle.ra_serve.specs.declared.fault.PortFault.{PortFault}
use Rattle.ra_serve.specs.Answers.{asked, refused}
use Rattle.ra_serve.specs.Ports.{refusal_of, tree_of, IsOwn}
use Rattle.ra_serve.specs.Sessions.{identity_text}
use Rattle.tree_reports.specs.Reports.{content_at}
use Rattle.tree_reports.specs.declared.depth.Depth.{Depth}
use Rattle.tree_changes.specs.Changes.{AreBetween}
use Rattle.ra_update.specs.Sent.{calls_told, end_item, Make}
use Rattle.ra_update.specs.declared.facts.Facts.{Facts}
use Rattle.ra_denial.specs.Denials.{unless_denied}
use Rattle.ra_denial.specs.Halts.{is_looked_at}
use Rattle.ra_denial.specs.declared.denial.Denial.{Denial}
use Rattle.ra_report.specs.Orders.{order_denied, wanted_denied, wanted_in, revision_of, place_of, target_of, depth_of, keeps}
use Rattle.ra_report.specs.Reports.{Having, aimed, reports_denied, reported, base_of}
use Rattle.ra_report.specs.Switches.{kept, switches_denied, with_switches}
use Rattle.ra_report.specs.Trimmed.{had, opens_all, trimmed}

-- what is wanted where a working copy has this: what stands at the place, and what is switched stays so
abbrev pub wanted_with : Repository → Option ℕ → Path → Path → Bool → Having → Path → Option Node
wanted_with x n place t keeps h = with_switches (wanted_in x n place t) (tree_of x (asked x n)) (kept keeps h.switches)

-- why an order is answered by no edit
abbrev pub edit_denied : Repository → Url → Option ℕ → Path → Path → Bool → List Report → Option Denial
edit_denied x at n place t keeps rs =
    option_or (wanted_denied x n place t)
    (option_or (reports_denied x at t rs) (switches_denied (wanted_in x n place t) (tree_of x (asked x n)) (kept keeps (reported x at t rs).switches)))

-- why a report is
abbrev pub report_denied : Repository → Url → Ask → List Report → Option Denial
report_denied x at c rs = option_or (order_denied at c) (edit_denied x at (revision_of c) (place_of at c) (target_of c) (keeps c) rs)

-- what was reported, what is wanted with what is told beside it, and the changes that make the one of the other
pub record Edit : Type 0 where
  pub reported : PathMap
  pub facts : Facts
  pub changes : List Change

abbrev pub wanted : Edit → PathMap
wanted e = e.facts.target.now

abbrev pub calls : Edit → List Call
calls e = calls_told e.facts (e.reported ∷ []) e.changes

-- the properties of the revisions from 0 on
abbrev pub all_props : Repository → List PropMap
all_props x = map (λ r. r.props) x.revisions

-- of what a working copy reports it makes so much of what is wanted; a target stands alone in its folder, of which nothing is told
pub record IsEdit (x : Repository) (at : Url) (n : Option ℕ) (place t : Path) (depth : Option Depth) (keeps : Bool) (rs : List Report) (e : Edit) : Type 0 where
  pub reports : (q : Path) → content_at e.reported q ≡ had depth t rs (wanted_with x n place t keeps (reported x at t rs)) (reported x at t rs).known q
  pub tells_root : e.facts.tells_root ≡ same_path t []
  pub opens : e.facts.opens ≡ opens_all (map (aimed t) rs)
  pub wants : (q : Path) → finite.get (wanted e) q ≡ trimmed depth t rs (wanted_with x n place t keeps (reported x at t rs)) q
  pub number : e.facts.number ≡ asked x n
  pub base : e.facts.base ≡ base_of rs
  pub identity : e.facts.identity.now ≡ identity_text x
  pub revisions : e.facts.revisions.now ≡ take (suc (asked x n)) (all_props x)
  pub between : AreBetween e.facts.opens e.reported (wanted e) e.changes
  pub makes : Make e.reported (wanted e) (calls e)

abbrev pub edit_alone : Edit → List ℕ
edit_alone e = edit_bytes (calls e) ++ spell end_item

-- behind the second answer to who the client is
abbrev pub edit_told : Edit → List ℕ
edit_told e = spell authorised ++ edit_alone e

abbrev pub maybe_told : Option Edit → List ℕ
maybe_told None = []
maybe_told (Some e) = edit_told e

-- the edit where one is sent, and none where none is
abbrev pub EditsIf : Bool → Repository → Url → Ask → List Report → Option Edit → Type 0
EditsIf true x at c rs None = ⊥
EditsIf true x at c rs (Some e) = IsEdit x at (revision_of c) (place_of at c) (target_of c) (depth_of c) (keeps c) rs e
EditsIf false x at c rs o = o ≡ None

-- one is where nothing is denied, and the port refused nothing by itself
abbrev pub MayEdit : Repository → Url → Ask → List Report → Option PortFault → Option Edit → Type 0
MayEdit x at c rs halt o = EditsIf (is_looked_at halt (report_denied x at c rs)) x at c rs o

-- what a report is answered
abbrev pub finished : Repository → Url → Ask → List Report → Option Edit → Option PortFault → List ℕ
finished x at c rs o None = unless_denied (report_denied x at c rs) (maybe_told o)
finished x at c rs o (Some f) = refused (refusal_of f)

-- a refusal by the port itself is its own
abbrev pub IsLawful : Option PortFault → Type 0
IsLawful None = Unit {0}
IsLawful (Some f) = IsOwn f
