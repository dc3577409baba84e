-- What is done at a job's ports, said of the ports before it and after it.
use Rattle.std.specs.Prelude.{◌≡◌, ℕ, Bool, List, [], Option, Result}
use Rattle.node_base.specs.Tree.{PathMap}
use Rattle.sync_core.specs.declared.answer.Answer.{Answer}
use Rattle.sync_core.specs.declared.ending.Ending.{Ending}
use Rattle.sync_core.specs.declared.fault.SyncFault.{SyncFault}
use Rattle.sync_core.specs.declared.state.JobState.{JobState}
use Rattle.sync_core.specs.Copies.{outcome_of}
use Rattle.sync_core.specs.Deeds.{Deed}
use Rattle.sync_core.specs.Jobs.{Order, begun}
use Rattle.sync_core.specs.Measures.{CanBe}
use Rattle.sync_core.specs.States.{Follows}
use Rattle.sync_job.specs.declared.master.MasterPort.{Ghosts as MasterGhosts}
use Rattle.sync_job.specs.declared.mirror.MirrorPort.{Ghosts as MirrorGhosts}
use Rattle.sync_job.specs.declared.report.Report.{Ghosts as ReportGhosts}
use Rattle.sync_job.specs.declared.ports.JobPorts.{JobPorts}
use Rattle.sync_job.specs.Fronts.{WentAt, Moving, accepted_by, counted_by}
use Rattle.sync_job.specs.Made.{BeginsOn, IsKeptFor, KeepsMade, StillBegins}
use Rattle.sync_job.specs.Questions.{KeepsAnswers}
use Rattle.sync_job.specs.Rooms.{KeepsRoom}
use Rattle.sync_job.specs.Runs.{Ran, IsSyncRun, IsInitRun, IsCopyRun}
use Rattle.sync_job.specs.Said.{Acted}
use Rattle.sync_job.specs.Stops.{StopsAsMirror}
use Rattle.sync_job.specs.Telling.{KeepsTelling}
use Rattle.sync_job.specs.Words.{calls_of, master_of, mirror_of, report_of, tree_of}
use Rattle.sync_job.specs.Worlds.{Happens, IsEvents, TakesTrees}

-- a tree that is kept comes with what is done next
abbrev pub HasTreeFor : {M N R : Type 0} → MirrorGhosts N → JobPorts M N R → Deed → Type 0
HasTreeFor G ports d = IsKeptFor (G.begins_with (mirror_of ports)) d (tree_of ports)

-- a deed is said with its answer, and told where it is to be told
abbrev pub Speaks : {M N R : Type 0} → ReportGhosts R → JobPorts M N R → JobPorts M N R → Deed → Answer → Type 0
Speaks G old new d a = Acted d a (calls_of old) (calls_of new) (G.heard (report_of old)) (G.heard (report_of new))

-- the mirror goes on by the deed, where it is a call of the mirror
abbrev pub MovesMirror : {M N R : Type 0} → MirrorGhosts N → JobPorts M N R → JobPorts M N R → Deed → Answer → Type 0
MovesMirror G old new d a = WentAt G.stands G.clock G.left_since G.honest (mirror_of old) (mirror_of new) (accepted_by d (outcome_of a)) (counted_by d (outcome_of a))

-- no call of the mirror was made
abbrev pub KeepsMirror : {M N R : Type 0} → MirrorGhosts N → JobPorts M N R → JobPorts M N R → Type 0
KeepsMirror G old new = WentAt G.stands G.clock G.left_since G.honest (mirror_of old) (mirror_of new) [] []

-- the mirror goes on by the calls that were said
abbrev pub MovesAsSaid : {M N R : Type 0} → MirrorGhosts N → JobPorts M N R → JobPorts M N R → Type 0
MovesAsSaid G old new = Moving (calls_of old) (calls_of new) (WentAt G.stands G.clock G.left_since G.honest (mirror_of old) (mirror_of new))

-- each call that the mirror was asked is said, once and in order, and no other
abbrev pub SaysCalls : {M N R : Type 0} → MirrorGhosts N → JobPorts M N R → JobPorts M N R → Type 0
SaysCalls G old new = KeepsTelling G.asked (mirror_of old) (mirror_of new) (calls_of old) (calls_of new)

-- each question that the master was asked is said, once and in order, and no other
abbrev pub SaysQuestions : {M N R : Type 0} → MasterGhosts M → JobPorts M N R → JobPorts M N R → Type 0
SaysQuestions G old new = KeepsAnswers G.answered (master_of old) (master_of new) (calls_of old) (calls_of new)

-- what the deed is at a true master and at each mirror that may stand there, with the trees at hand before and after it
abbrev pub HappensAt : {M N R : Type 0} → MasterGhosts M → MirrorGhosts N → JobPorts M N R → JobPorts M N R → List PathMap → List PathMap → Deed → Answer → Type 0
HappensAt G H old new before after d a = Happens (G.is_at (master_of old)) (G.is_at (master_of new)) (H.stands (mirror_of old)) (H.stands (mirror_of new)) (H.seat (mirror_of old)) (H.seat (mirror_of new)) d a before after

-- the same of a deed to which the trees at hand are nothing, whatever they are
abbrev pub HappensWithoutTrees : {M N R : Type 0} → MasterGhosts M → MirrorGhosts N → JobPorts M N R → JobPorts M N R → Deed → Answer → Type 0
HappensWithoutTrees G H old new d a = (trees : List PathMap) → HappensAt G H old new trees trees d a

-- trees of the mirror are taken behind those at hand, or refused
abbrev pub TakesFrom : {M N R : Type 0} → MirrorGhosts N → JobPorts M N R → JobPorts M N R → List PathMap → List PathMap → Option Answer → Type 0
TakesFrom G old new before after result = TakesTrees (G.stands (mirror_of old)) (G.stands (mirror_of new)) (G.seat (mirror_of old)) (G.seat (mirror_of new)) before after result

-- the mirror begins with the trees at hand, where it began with those before
abbrev pub MirrorBeginsOn : {M N R : Type 0} → MirrorGhosts N → JobPorts M N R → JobPorts M N R → List PathMap → List PathMap → Type 0
MirrorBeginsOn G old new before after = BeginsOn G.begins_with (mirror_of old) (mirror_of new) before after

-- and with any trees that it began with
abbrev pub MirrorStillBegins : {M N R : Type 0} → MirrorGhosts N → JobPorts M N R → JobPorts M N R → Type 0
MirrorStillBegins G old new = StillBegins G.begins_with (mirror_of old) (mirror_of new)

-- a deed is done and answered so, with the trees at hand before it and after it
pub record Acts {M N R : Type 0} (G : MasterGhosts M) (H : MirrorGhosts N) (J : ReportGhosts R) (old new : JobPorts M N R) (before after : List PathMap) (d : Deed) (a : Answer) : Type 0 where
  -- room for the release of the lock is made and stays
  pub room : KeepsRoom d a old new
  -- the answer is one that a port gives
  pub can : CanBe a
  -- both are said, and what each port was asked, once and in order
  pub said : Speaks J old new d a
  pub asked : SaysCalls H old new
  pub answered : SaysQuestions G old new
  -- what the deed does to the mirror, and is to a true master and a mirror
  pub mirror : MovesMirror H old new d a
  pub happens : HappensAt G H old new before after d a
  -- the trees at hand are the mirror's first ones, and a fetched set's tree is kept for its commit
  pub first : MirrorBeginsOn H old new before after
  pub kept : KeepsMade after d a (tree_of new)

-- nothing is done: nothing more is said or told, and the ports and the trees at hand stay
pub record Rests {M N R : Type 0} (old new : JobPorts M N R) (before after : List PathMap) : Type 0 where
  pub said : calls_of new ≡ calls_of old
  pub told : report_of new ≡ report_of old
  pub master : master_of new ≡ master_of old
  pub mirror : mirror_of new ≡ mirror_of old
  pub trees : after ≡ before

-- a job runs from this state to its end
abbrev pub RunsJob : {M N R : Type 0} → ReportGhosts R → JobPorts M N R → JobPorts M N R → JobState → Ending → Type 0
RunsJob G old new s e = Ran s (calls_of old) (calls_of new) (G.heard (report_of old)) (G.heard (report_of new)) e

-- the run of a job that was begun by some order is some more events of the world in which master and mirror stand so
abbrev pub RunsInWorld : {M N R : Type 0} → MasterGhosts M → MirrorGhosts N → JobPorts M N R → JobPorts M N R → JobState → Type 0
RunsInWorld G H old new s =
    (order : Order) → Follows (begun order) s → IsEvents (G.is_at (master_of old)) (G.is_at (master_of new)) (H.stands (mirror_of old)) (H.stands (mirror_of new)) (H.seat (mirror_of old))

-- and a stop at any moment of it leaves a mirror of the master
abbrev pub StopsInWorld : {M N R : Type 0} → MasterGhosts M → MirrorGhosts N → JobPorts M N R → JobPorts M N R → JobState → Type 0
StopsInWorld G H old new s =
    (order : Order) → Follows (begun order) s
    → StopsAsMirror (G.is_at (master_of old)) (G.is_at (master_of new)) (H.stands (mirror_of old)) (H.seat (mirror_of old)) H.clock H.left_since (H.honest (mirror_of old)) (mirror_of old) (mirror_of new)

-- a run that brings the mirror up to its master
abbrev pub RunsSync : {M N R : Type 0} → ReportGhosts R → JobPorts M N R → JobPorts M N R → List ℕ → Bool → Result (Unit {0}) SyncFault → Type 0
RunsSync G old new token steal result = IsSyncRun token steal (calls_of old) (calls_of new) (G.heard (report_of old)) (G.heard (report_of new)) result

-- one that begins the mirror
abbrev pub RunsInit : {M N R : Type 0} → ReportGhosts R → JobPorts M N R → JobPorts M N R → List ℕ → Result (Unit {0}) SyncFault → Type 0
RunsInit G old new url result = IsInitRun url (calls_of old) (calls_of new) (G.heard (report_of old)) (G.heard (report_of new)) result

-- one that copies properties again
abbrev pub RunsCopy : {M N R : Type 0} → ReportGhosts R → JobPorts M N R → JobPorts M N R → List ℕ → ℕ → ℕ → Result (Unit {0}) SyncFault → Type 0
RunsCopy G old new token low high result = IsCopyRun token low high (calls_of old) (calls_of new) (G.heard (report_of old)) (G.heard (report_of new)) result
