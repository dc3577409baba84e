-- What an edit is made of, as it is in code.
use Rattle.std.specs.Prelude.{◌≡◌, ℕ, Bool, suc, take, map, List, [], Option, Some}
use Rattle.std.specs.FinMap as finite
use Rattle.std.specs.Io.KnownBytes.{Appends}
use Rattle.node_base.specs.Path.{Path, same_path}
use Rattle.node_base.specs.declared.node.Node.{Node}
use Rattle.tree_changes.specs.Changes.{AreBetween}
use Rattle.tree_reports.specs.Reports.{content_at}
use Rattle.tree_reports.specs.declared.depth.Depth.{Depth}
use Rattle.browse_wire.specs.Reports.{Report}
use Rattle.browse_wire.specs.Urls.{Url}
use Rattle.repo_core.specs.Repository.{Repository}
use Rattle.ra_serve.specs.Answers.{asked}
use Rattle.ra_update.specs.Sent.{Make}
use Rattle.ra_serve.specs.Ports.{tree_of}
use Rattle.ra_report.specs.Reports.{Having, having, aimed, reported, base_of}
use Rattle.ra_report.specs.Switches.{kept, with_switches}
use Rattle.ra_report.specs.Trimmed.{had_by, limits_in, opens_all, trimmed_by}
use Rattle.ra_report.specs.declared.switched.Switched.{Switched}
use Rattle.ra_report.specs.Edits.{Edit, wanted, wanted_with, calls, all_props}
use Rattle.ra_report.specs.declared.plan.Wanted as declared_wanted
use Rattle.ra_report.specs.declared.plan.WorkingCopy as declared_copy
use Rattle.ra_report.specs.declared.plan.Plan as declared

-- what is wanted of a revision, and all of that
pub record IsWanted (x : Repository) (n : Option ℕ) (f : Path → Option Node) (w : declared_wanted.Wanted) : Type 0 where
  pub number : w.number ≡ asked x n
  pub tree : (q : Path) → finite.get w.tree q ≡ f q
  pub whole : w.whole ≡ tree_of x (asked x n)

-- what is reported, and the revision of the folder
pub record IsCopy (h : Having) (base : Option ℕ) (c : declared_copy.WorkingCopy) : Type 0 where
  pub has : having (content_at c.report) c.switches.items ≡ h
  pub base_is : Some c.base ≡ base

-- both, and what is told beside them, where a working copy has all, and all is wanted
pub record IsFullPlan (x : Repository) (at : Url) (n : Option ℕ) (place t : Path) (keeps : Bool) (rs : List Report) (p : declared.Plan) : Type 0 where
  pub wants : IsWanted x n (wanted_with x n place t keeps (reported x at t rs)) p.wanted
  pub has : IsCopy (reported x at t rs) (base_of rs) p.copy
  pub tells_root : p.tells_root ≡ same_path t []
  pub identity : p.identity ≡ x.identity
  pub revisions : p.revisions.items ≡ take (suc p.wanted.number) (all_props x)

-- so much of it as a working copy has and a command wants
pub record IsTrimmedBy (depth : Option Depth) (t : Path) (cs : List Report) (old new : declared.Plan) : Type 0 where
  pub number : new.wanted.number ≡ old.wanted.number
  pub wants : (q : Path) → finite.get new.wanted.tree q ≡ trimmed_by depth t (limits_in depth cs) (finite.get old.wanted.tree) q
  pub has : (q : Path) → content_at new.copy.report q ≡ had_by depth t (limits_in depth cs) (finite.get old.wanted.tree) (content_at old.copy.report) q
  pub base : new.copy.base ≡ old.copy.base
  pub opens : new.opens ≡ opens_all cs
  pub tells_root : new.tells_root ≡ old.tells_root
  pub identity : new.identity ≡ old.identity
  pub revisions : new.revisions.items ≡ old.revisions.items

abbrev pub IsTrimmed : Option Depth → Path → List Report → declared.Plan → declared.Plan → Type 0
IsTrimmed depth t rs = IsTrimmedBy depth t (map (aimed t) rs)

-- so much of a full one
pub record IsPlan (x : Repository) (at : Url) (n : Option ℕ) (place t : Path) (depth : Option Depth) (keeps : Bool) (rs : List Report) (p : declared.Plan) : Type 0 where
  pub full : declared.Plan
  pub planned : IsFullPlan x at n place t keeps rs full
  pub trimmed : IsTrimmed depth t rs full p

-- what is wanted with what is switched
pub record AreKept (ss : List Switched) (old new : declared_wanted.Wanted) : Type 0 where
  pub number : new.number ≡ old.number
  pub tree : (q : Path) → finite.get new.tree q ≡ with_switches (finite.get old.tree) old.whole ss q
  pub whole : new.whole ≡ old.whole

-- of what is wanted, and of what is reported
pub record IsPlanOf (x : Repository) (h : Having) (base : Option ℕ) (keeps told : Bool) (w : declared_wanted.Wanted) (p : declared.Plan) : Type 0 where
  pub wants : AreKept (kept keeps h.switches) w p.wanted
  pub has : IsCopy h base p.copy
  pub tells_root : p.tells_root ≡ told
  pub identity : p.identity ≡ x.identity
  pub revisions : p.revisions.items ≡ take (suc p.wanted.number) (all_props x)

abbrev pub IsPlanned : Repository → declared_wanted.Wanted → declared_copy.WorkingCopy → Bool → declared.Plan → Type 0
IsPlanned x w c b p = (p.wanted ≡ w) × (p.copy ≡ c) × (p.identity ≡ x.identity) × (p.revisions.items ≡ take (suc w.number) (all_props x)) × (p.tells_root ≡ b)

-- the edit of a plan
pub record IsEditOf (p : declared.Plan) (identity : List ℕ) (e : Edit) : Type 0 where
  pub reported_is : e.reported ≡ p.copy.report
  pub wanted_is : wanted e ≡ p.wanted.tree
  pub number : e.facts.number ≡ p.wanted.number
  pub base : e.facts.base ≡ Some p.copy.base
  pub identity_is : e.facts.identity.now ≡ identity
  pub revisions : e.facts.revisions.now ≡ p.revisions.items
  pub tells_root : e.facts.tells_root ≡ p.tells_root
  pub opens : e.facts.opens ≡ p.opens
  pub between : AreBetween e.facts.opens e.reported (wanted e) e.changes
  pub makes : Make e.reported (wanted e) (calls e)

-- it stands behind what a writer had
pub record TellsPlan (p : declared.Plan) (identity : List ℕ) (spelled : Edit → List ℕ) (before now : Option (List ℕ)) : Type 0 where
  pub edit : Edit
  pub planned : IsEditOf p identity edit
  pub bytes : Appends before now (spelled edit)
