-- What holds of every mirror after every list of events.
use Rattle.std.specs.Prelude.{◌≡◌, ◌≢◌, ℕ, ◌≤◌, Bool, true, false, List, [], ◌∷◌, ◌++◌, length, map, take, replicate, slice_get, Some, None, is_some}
use Rattle.std.specs.List.{range_with_len}
use Rattle.std.specs.FinMap as finite
use Rattle.node_base.specs.Path.{Name}
use Rattle.node_base.specs.Props.{PropMap, is_sync}
use Rattle.repo_core.specs.Repository.{Revision, trees_of, tree_at, head_of, root_alone}
use Rattle.repo_core.specs.Entries.{revisions_after}
use Rattle.sync_core.specs.Mirror.{fresh, standing_of, IsAtRest, Call, TakeLock, StealLock, Look, unmet, refusal, Missed, commits_of}
use Rattle.sync_core.specs.declared.need.Need.TheVariants as need
use Rattle.sync_core.specs.Jobs.{Job, Locked, Lawful}
use Rattle.sync_core.specs.World.{Origin, IsOrigin, Room, fresh_room, World, Event, moment_of, map_at, job_at, run, stopped, IsRun}

abbrev pub IsInitialised : Room → Type 0
IsInitialised room = is_some (standing_of room.mirror.revisions).url ≡ true

-- the same map but for the names that are never copied
abbrev pub IsCopy : PropMap → PropMap → Type 0
IsCopy a b = (n : Name) → is_sync n ≡ false → finite.get a n ≡ finite.get b n

-- a copy of the master's map of revision n at moment t
pub record IsCopied (o : Origin) (t n : ℕ) (p : PropMap) : Type 0 where
  pub theirs : PropMap
  pub then_there : map_at o t n ≡ Some theirs
  pub same : IsCopy p theirs

-- a mirror of the master: its identity, a front of its trees, and each map as it was when its last copying was fetched
pub record IsMirrorOf (o : Origin) (room : Room) : Type 0 where
  pub identity : (standing_of room.mirror.revisions).uuid ≡ Some o.identity
  pub within : length room.mirror.revisions ≤ length o.trees
  pub trees : trees_of room.mirror.revisions ≡ take (length room.mirror.revisions) o.trees
  pub maps : (n : ℕ) (x : Revision) → slice_get room.mirror.revisions n ≡ Some x → IsCopied o (room.copied n) n x.props

-- what holds of a mirror: its journal stands for it and commits 1 to its head in order, each once; nothing that was
-- acknowledged or shown is missing; where it is initialised it is a mirror of the master, and at rest in a shape if it was so
-- at the start
pub record Holds (o : Origin) (shaped : Bool) (room : Room) : Type 0 where
  pub journal : room.mirror.revisions ≡ revisions_after fresh.revisions room.journal
  pub commits : commits_of room.journal ≡ range_with_len 1 (head_of room.mirror.revisions)
  pub acknowledged : room.acknowledged ≤ head_of room.mirror.revisions
  pub shown : room.shown ≤ head_of room.mirror.revisions
  pub mirror : IsInitialised room → IsMirrorOf o room
  pub shape : shaped ≡ true → IsInitialised room → IsAtRest (standing_of room.mirror.revisions)

-- a mirror as it was opened: what holds of mirrors holds of it, and nothing runs at it. One that isn't initialised has copied
-- nothing
pub record IsOpened (o : Origin) (shaped : Bool) (room : Room) : Type 0 where
  pub holds : Holds o shaped room
  pub root : tree_at room.mirror.revisions 0 ≡ Some root_alone
  pub few : length room.mirror.revisions ≤ 65536
  pub past : (n : ℕ) → room.copied n ≤ moment_of o
  pub blank : is_some (standing_of room.mirror.revisions).url ≡ false → (n : ℕ) → room.copied n ≡ 0
  pub jobs : room.jobs ≡ []
  pub holder : room.mirror.holder ≡ None

-- a master, and mirrors as they were opened; for each it is said whether it was at rest in a shape
pub record Starts (w : World) (shaped : ℕ → Bool) : Type 0 where
  pub origin : IsOrigin w.origin
  pub rooms : (i : ℕ) (room : Room) → slice_get w.rooms i ≡ Some room → IsOpened w.origin (shaped i) room

-- the mirror of that number
abbrev pub IsRoomOf : World → ℕ → Room → Type 0
IsRoomOf w i room = slice_get w.rooms i ≡ Some room

-- mirrors fresh from their making, and a master
abbrev pub start : Origin → ℕ → World
start o mirrors = record { origin = o; rooms = replicate mirrors fresh_room }

-- such are mirrors as they were opened
abbrev pub FreshStarts : Type 0
FreshStarts = (o : Origin) (mirrors : ℕ) → IsOrigin o → Starts (start o mirrors) (λ _. true)

-- whatever happens, it holds of every mirror
abbrev pub EveryRun : Type 0
EveryRun = (w : World) (shaped : ℕ → Bool) (events : List Event) → Starts w shaped → IsRun w events → (i : ℕ) (room : Room) → IsRoomOf (run w events) i room → Holds (run w events).origin (shaped i) room

-- so it does from fresh mirrors, with a shape
abbrev pub EveryFreshRun : Type 0
EveryFreshRun = (o : Origin) (mirrors : ℕ) (events : List Event) → IsOrigin o → IsRun (start o mirrors) events → (i : ℕ) (room : Room) → IsRoomOf (run (start o mirrors) events) i room → Holds (run (start o mirrors) events).origin true room

-- each mirror has stopped and is opened again
abbrev pub reopened : World → World
reopened w = record w { rooms = map stopped w.rooms }

-- lists of events, behind each of which every mirror is opened again
abbrev pub history : World → List (List Event) → World
history w [] = w
history w (events ∷ rest) = history (reopened (run w events)) rest

abbrev pub IsHistory : World → List (List Event) → Type 0
IsHistory w [] = Unit {0}
IsHistory w (events ∷ rest) = IsRun w events × IsHistory (reopened (run w events)) rest

-- mirrors that were opened, ran and are opened again are as mirrors that begin, however often
abbrev pub BeginsAgain : Type 0
BeginsAgain = (w : World) (shaped : ℕ → Bool) (runs : List (List Event)) → Starts w shaped → IsHistory w runs → Starts (history w runs) shaped

-- the moment of a revision's last copying never falls, however a run goes on
abbrev pub MomentsRise : Type 0
MomentsRise =
    (w : World) (shaped : ℕ → Bool) (events more : List Event) → Starts w shaped → IsRun w (events ++ more)
    → (i : ℕ) (early late : Room) → IsRoomOf (run w events) i early → IsRoomOf (run w (events ++ more)) i late → (n : ℕ) → early.copied n ≤ late.copied n

-- a mirror that isn't initialised is as it was at the start
abbrev pub StaysBlank : Type 0
StaysBlank =
    (w : World) (shaped : ℕ → Bool) (events : List Event) → Starts w shaped → IsRun w events
    → (i : ℕ) (first last : Room) → IsRoomOf w i first → IsRoomOf (run w events) i last → is_some (standing_of last.mirror.revisions).url ≡ false → last.mirror.revisions ≡ first.mirror.revisions

-- a job whose lock was answered: it is the holder; nobody else's call is accepted but a look, which changes nothing; its own look
-- answers what its last one and its own accepted calls since left; none of its lawful calls misses a need; and nobody gets the
-- lock
pub record GoesOn (room : Room) (seat : ℕ) (job : Job) : Type 0 where
  pub holder : room.mirror.holder ≡ Some seat
  pub alone : (other : ℕ) (call : Call) → other ≢ seat → refusal room.mirror other call ≡ None → call ≡ Look
  pub merged : job.looked ≡ true → (standing_of room.mirror.revisions).merged ≡ job.merged
  pub copying : job.looked ≡ true → (standing_of room.mirror.revisions).copying ≡ job.copying
  pub head : job.looked ≡ true → (standing_of room.mirror.revisions).head ≡ job.head
  pub needs : (call : Call) → Lawful job call → unmet (standing_of room.mirror.revisions) room.mirror.holder seat call ≡ None
  pub no_lock : (other : ℕ) (token : List ℕ) → refusal room.mirror other (TakeLock token) ≡ Some (Missed need.LockHeld)
  pub no_steal : (other : ℕ) (token : List ℕ) → refusal room.mirror other (StealLock token) ≡ Some (Missed need.HolderRunning)

abbrev pub HolderGoesOn : Type 0
HolderGoesOn =
    (w : World) (shaped : ℕ → Bool) (events : List Event) → Starts w shaped → IsRun w events
    → (i : ℕ) (room : Room) → IsRoomOf (run w events) i room → (seat : ℕ) (job : Job) → job_at room.jobs seat ≡ Some job → job.stage ≡ Locked → GoesOn room seat job
