-- Runs of jobs at a true master, as events of a world with one mirror.
use Rattle.std.specs.Prelude.{◌≡◌, ℕ, ◌-◌, Bool, List, [], ◌∷◌, ◌++◌, length, Option, Some, None, IfSome}
use Rattle.node_base.specs.Tree.{PathMap}
use Rattle.repo_core.specs.Repository.{trees_of}
use Rattle.sync_core.specs.declared.answer.Answer.{Answer}
use Rattle.sync_core.specs.declared.answer.Answer.TheVariants as answer
use Rattle.sync_core.specs.declared.fault.SyncFault.{SyncFault}
use Rattle.sync_core.specs.Mirror.{Call, refusal, granted, accepted}
use Rattle.sync_core.specs.Deeds.{Deed, Calls, AsksIdentity, AsksLatest, Fetches, FetchesProps}
use Rattle.sync_core.specs.Copies.{outcome_of}
use Rattle.sync_core.specs.Hearing.{IsRefusal, IsAnswerFor}
use Rattle.sync_core.specs.World.{Origin, Room, World, Event, Makes, moment_of, map_at, run, IsRun}
use Rattle.sync_core.specs.Law.{Starts, Holds}
use Rattle.sync_job.specs.Said.{IsQuestion}
use Rattle.sync_job.specs.Masters.{IsTrue}
use Rattle.sync_job.specs.Mirrors.{MirrorNow, mirror_in}
use Rattle.sync_job.specs.Fronts.{HasCome, accepted_by, counted_by}

-- a question is answered as the master stands, or refused
abbrev pub IsAnswerAt : Origin → Deed → Answer → Type 0
IsAnswerAt o (Calls call) a = Unit {0}
IsAnswerAt o AsksIdentity (answer.Identity u) = u ≡ o.identity
IsAnswerAt o AsksLatest (answer.Latest n) = n ≡ length o.trees - 1
IsAnswerAt o (Fetches n) (answer.Revision set props) = Makes o n set × (map_at o (moment_of o) n ≡ Some props)
IsAnswerAt o (FetchesProps n) (answer.Map props) = map_at o (moment_of o) n ≡ Some props
IsAnswerAt o d a = IsRefusal a

-- these are the first ones of all
abbrev pub AreFirst : List PathMap → List PathMap → Type 0
AreFirst trees all = (rest : List PathMap) × (trees ++ rest ≡ all)

-- so it is of a revision where the trees at hand are the master's first ones, and of all else
abbrev pub IsAnswered : List PathMap → Deed → Answer → Origin → Type 0
IsAnswered trees (Fetches n) a o = AreFirst trees o.trees → IsAnswerAt o (Fetches n) a
IsAnswered trees d a o = IsAnswerAt o d a

-- what a deed and its answer are to a mirror: a call that it accepts, a refusal, or a question; these two leave it as it was, but
-- that a call's entry may be in doubt
pub data IsServed (m : MirrorNow) (seat : ℕ) (d : Deed) (a : Answer) (now : MirrorNow) : Type 0 where
  Accepts : (call : Call) → d ≡ Calls call → refusal (mirror_in m) seat call ≡ None → IsAnswerFor (granted (mirror_in m) call) a → mirror_in now ≡ accepted (mirror_in m) seat call → IsServed m seat d a now
  Refuses : (f : SyncFault) → a ≡ answer.Refused f → mirror_in now ≡ mirror_in m → IsServed m seat d a now
  IsAsked : IsQuestion d → mirror_in now ≡ mirror_in m → IsServed m seat d a now

-- how a deed leaves the mirror, and the trees of it that are at hand; a call that counts wasn't refused by the table
pub record Serves (stands : MirrorNow → Type 0) (m : MirrorNow) (seat : ℕ) (d : Deed) (a : Answer) (before after : List PathMap) : Type 0 where
  pub now : MirrorNow
  pub there : stands now
  pub served : IsServed m seat d a now
  pub come : HasCome m now (accepted_by d (outcome_of a)) (counted_by d (outcome_of a))
  pub free : (call : Call) → counted_by d (outcome_of a) ≡ call ∷ [] → refusal (mirror_in m) seat call ≡ None
  pub trees : AreFirst before (trees_of m.repository.revisions) → AreFirst after (trees_of now.repository.revisions)

-- what a deed is at a true master, and at each mirror that may stand there
pub record Happens (at_old at_new : Origin → Type 0) (stands_old stands_new : MirrorNow → Type 0) (seat_old seat_new : ℕ) (d : Deed) (a : Answer) (before after : List PathMap) : Type 0 where
  pub master : IsTrue at_old at_new (IsAnswered after d a)
  pub mirror : (m : MirrorNow) → stands_old m → Serves stands_new m seat_old d a before after
  pub seat : seat_new ≡ seat_old

-- trees of the mirror are taken behind those at hand, or refused; it stays as it is
pub record TakesTrees (stands_old stands_new : MirrorNow → Type 0) (seat_old seat_new : ℕ) (before after : List PathMap) (result : Option Answer) : Type 0 where
  pub there : (m : MirrorNow) → stands_old m → stands_new m × (AreFirst before (trees_of m.repository.revisions) → AreFirst after (trees_of m.repository.revisions))
  pub seat : seat_new ≡ seat_old
  pub refused : IfSome result (λ a. (f : SyncFault) × (a ≡ answer.Refused f))

-- after these events of a world with one mirror its master and its mirror are at the ports; what holds of every mirror holds of it:
-- where it is initialised it is a mirror of the master
pub record StandsAfter (w : World) (shaped : ℕ → Bool) (events : List Event) (at : Origin → Type 0) (stands : MirrorNow → Type 0) : Type 0 where
  pub happens : IsRun w events
  pub room : Room
  pub alone : (run w events).rooms ≡ room ∷ []
  pub holds : Holds (run w events).origin (shaped 0) room
  pub master : at (run w events).origin
  pub mirror : MirrorNow
  pub there : stands mirror
  pub same : room.mirror ≡ mirror_in mirror

-- from such a world, with no job at its mirror, a run of a job at seat 0 is some more events
abbrev pub IsEvents : (Origin → Type 0) → (Origin → Type 0) → (MirrorNow → Type 0) → (MirrorNow → Type 0) → ℕ → Type 0
IsEvents at_old at_new stands_old stands_new seat =
    (w : World) (shaped : ℕ → Bool) (events : List Event) → Starts w shaped → (s : StandsAfter w shaped events at_old stands_old) → s.room.jobs ≡ [] → seat ≡ 0
    → (more : List Event) × StandsAfter w shaped (events ++ more) at_new stands_new
