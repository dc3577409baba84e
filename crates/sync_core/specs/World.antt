-- The master, the mirrors and their jobs, and what can happen.
use Rattle.std.specs.Prelude.{◌≡◌, ℕ, ◌-◌, ◌<◌, ◌≤◌, ◌==◌, max, List, [], ◌∷◌, ◌++◌, length, take, slice_get, slice_set, Option, Some, None, is_some, if◌then◌else◌}
use Rattle.std.specs.Option.{option_map_or, option_and_then}
use Rattle.node_base.specs.Props.{PropMap}
use Rattle.node_base.specs.Tree.{PathMap}
use Rattle.dump_load.specs.declared.change.Change.{Change}
use Rattle.dump_load.specs.Faults.{fault}
use Rattle.dump_load.specs.Trees.{effect_tree}
use Rattle.repo_core.specs.Repository.{head_of, root_alone}
use Rattle.repo_core.specs.declared.entry.Entry.{Entry}
use Rattle.sync_core.specs.Mirror.{Mirror, fresh, Call, Init, Commit, PutProps, refusal, entry_of, accepted, granted}
use Rattle.sync_core.specs.Jobs.{Order, Job, begun, last_fetch, Lawful, with_identity, with_latest, with_fetched, answered, refused_to}

-- the master so far: its identity, the trees of its revisions, and the maps of all revisions at each count of its steps
pub record Origin : Type 0 where
  pub identity : List ℕ
  pub trees : List PathMap
  pub maps : List (List PropMap)

-- a moment is a count of the master's steps, and this is the present one
abbrev pub moment_of : Origin → ℕ
moment_of o = length o.maps - 1

-- the map of revision n at moment t
abbrev pub map_at : Origin → ℕ → ℕ → Option PropMap
map_at o t n = option_and_then (λ maps. slice_get maps n) (slice_get o.maps t)

abbrev pub maps_now : Origin → List PropMap
maps_now o = option_map_or (λ maps. maps) (slice_get o.maps (moment_of o)) []

-- a master has a revision 0, with the root alone, and maps at its first moment
pub record IsOrigin (o : Origin) : Type 0 where
  pub root : slice_get o.trees 0 ≡ Some root_alone
  pub maps : 0 < length o.maps

-- one mirror, what runs at it, and what is noted of it
pub record Room : Type 0 where
  pub mirror : Mirror
  -- the entries of its accepted calls, in order
  pub journal : List Entry
  -- the seats: a job at each, or none where it has left
  pub jobs : List (Option Job)
  -- for each revision the moment at which its last copying was fetched
  pub copied : ℕ → ℕ
  -- the greatest revision whose commit was answered, and the greatest that a reader was given
  pub acknowledged : ℕ
  pub shown : ℕ

-- a mirror as it is created, with nothing at it
abbrev pub fresh_room : Room
fresh_room = record { mirror = fresh; journal = []; jobs = []; copied = λ _. 0; acknowledged = 0; shown = 0 }

pub record World : Type 0 where
  pub origin : Origin
  pub rooms : List Room

-- what a job asks of the master: its identity, its head, a revision (answered by this set of changes and its map), or a map
pub data Question : Type 0 where
  Identity : Question
  Latest : Question
  Fetch : (n : ℕ) → (set : List Change) → Question
  FetchProps : (n : ℕ) → Question

-- what can happen at a mirror
pub data Happening : Type 0 where
  -- a job begins
  Begin : (order : Order) → Happening
  -- a job asks the master
  Ask : (seat : ℕ) → (question : Question) → Happening
  -- a job makes a call
  Make : (seat : ℕ) → (call : Call) → Happening
  -- a call is refused for want of memory or of room in the journal
  Starve : (seat : ℕ) → (call : Call) → Happening
  -- a job leaves
  Leave : (seat : ℕ) → Happening
  -- a reader is given a revision
  Read : (n : ℕ) → Happening
  -- the mirror stops and is opened again: no call was in flight, or its entry isn't kept
  Stop : Happening
  -- the same, with the entry of the call in flight kept, though nobody was answered
  StopAfter : (seat : ℕ) → (call : Call) → Happening

pub data Event : Type 0 where
  -- the master commits a set of changes
  MasterCommit : (set : List Change) → (props : PropMap) → Event
  -- the master's properties of a revision are edited
  MasterEdit : (n : ℕ) → (props : PropMap) → Event
  -- something happens at a mirror
  At : (mirror : ℕ) → (what : Happening) → Event

abbrev pub job_at : List (Option Job) → ℕ → Option Job
job_at jobs seat = option_and_then (λ job. job) (slice_get jobs seat)

-- the set makes the master's tree n of the trees before it
pub record Makes (o : Origin) (n : ℕ) (set : List Change) : Type 0 where
  pub faultless : fault (take n o.trees) set ≡ None
  pub tree : slice_get o.trees n ≡ Some (effect_tree (take n o.trees) set)

-- a fetch may give any set that makes the tree; the other answers leave no choice
abbrev pub IsTrueAnswer : Origin → Question → Type 0
IsTrueAnswer o Identity = Unit {0}
IsTrueAnswer o Latest = Unit {0}
IsTrueAnswer o (Fetch n set) = Makes o n set
IsTrueAnswer o (FetchProps n) = Unit {0}

-- a call that the job at the seat may make
pub record IsCallOf (room : Room) (seat : ℕ) (call : Call) : Type 0 where
  pub job : Job
  pub runs : job_at room.jobs seat ≡ Some job
  pub lawful : Lawful job call

abbrev pub MayHappen : Origin → Room → Happening → Type 0
MayHappen o room (Begin order) = Unit {0}
MayHappen o room (Ask seat question) = IsTrueAnswer o question
MayHappen o room (Make seat call) = IsCallOf room seat call
MayHappen o room (Starve seat call) = IsCallOf room seat call
MayHappen o room (Leave seat) = Unit {0}
MayHappen o room (Read n) = n ≤ head_of room.mirror.revisions
MayHappen o room Stop = Unit {0}
MayHappen o room (StopAfter seat call) = IsCallOf room seat call × (refusal room.mirror seat call ≡ None)

-- the free choices of an event
abbrev pub MayBe : World → Event → Type 0
MayBe w (MasterCommit set props) = fault w.origin.trees set ≡ None
MayBe w (MasterEdit n props) = n < length w.origin.trees
MayBe w (At i what) = (room : Room) → slice_get w.rooms i ≡ Some room → MayHappen w.origin room what

-- what a job has after the master's answer; a revision that the master hasn't is refused
abbrev pub told : Origin → Job → Question → Job
told o job Identity = with_identity job o.identity
told o job Latest = with_latest job (length o.trees - 1)
told o job (Fetch n set) = option_map_or (λ p. with_fetched job n (Some set) p (moment_of o)) (map_at o (moment_of o) n) job
told o job (FetchProps n) = option_map_or (λ p. with_fetched job n None p (moment_of o)) (map_at o (moment_of o) n) job

-- when the job fetched that number last
abbrev pub moment_for : Job → ℕ → ℕ
moment_for job n = option_map_or (λ f. f.moment) (last_fetch job.fetched n) 0

-- the moments, with that of the job's fetch at n
abbrev pub stamped : (ℕ → ℕ) → Job → ℕ → ℕ → ℕ
stamped copied job n r = if r == n then moment_for job n else copied r

-- three calls copy properties
abbrev pub copied_after : (ℕ → ℕ) → Job → Call → ℕ → ℕ
copied_after copied job (Init url uuid props) = stamped copied job 0
copied_after copied job (Commit n set props) = stamped copied job n
copied_after copied job (PutProps n props) = stamped copied job n
copied_after copied job _ = copied

abbrev pub acknowledged_after : ℕ → Call → ℕ
acknowledged_after a (Commit n set props) = max a n
acknowledged_after a _ = a

-- a call is accepted: its entry stands, before anyone is told
abbrev pub stands : Room → ℕ → Job → Call → Room
stands room seat job call =
    record room {
      mirror = accepted room.mirror seat call;
      journal = option_map_or (λ e. room.journal ++ e ∷ []) (entry_of room.mirror.revisions call) room.journal;
      copied = copied_after room.copied job call;
    }

abbrev pub hears : Room → ℕ → Job → Room
hears room seat job = record room { jobs = slice_set room.jobs seat (Some job) }

-- a call is accepted and answered
abbrev pub does : Room → ℕ → Job → Call → Room
does room seat job call = record (hears (stands room seat job call) seat (answered job call (granted room.mirror call))) { acknowledged = acknowledged_after room.acknowledged call }

-- a call is answered
abbrev pub made : Room → ℕ → Call → Job → Room
made room seat call job = if is_some (refusal room.mirror seat call) then hears room seat (refused_to job call) else does room seat job call

-- opened again, with no job and no holder, whatever token the lock has
abbrev pub stopped : Room → Room
stopped room = record room { mirror = record { revisions = room.mirror.revisions; holder = None }; jobs = [] }

-- whoever leaves holds nothing any more
abbrev pub holder_left : Option ℕ → ℕ → Option ℕ
holder_left holder seat = option_map_or (λ k. if k == seat then None else Some k) holder None

abbrev pub with_job : Room → ℕ → (Job → Room) → Room
with_job room seat f = option_map_or f (job_at room.jobs seat) room

abbrev pub room_after : Origin → Room → Happening → Room
room_after o room (Begin order) = record room { jobs = room.jobs ++ Some (begun order) ∷ [] }
room_after o room (Ask seat question) = with_job room seat (λ job. hears room seat (told o job question))
room_after o room (Make seat call) = with_job room seat (made room seat call)
room_after o room (Starve seat call) = with_job room seat (λ job. hears room seat (refused_to job call))
room_after o room (Leave seat) = record room { mirror = record { revisions = room.mirror.revisions; holder = holder_left room.mirror.holder seat }; jobs = slice_set room.jobs seat None }
room_after o room (Read n) = record room { shown = max room.shown n }
room_after o room Stop = stopped room
room_after o room (StopAfter seat call) = with_job room seat (λ job. stopped (stands room seat job call))

-- the master with one revision more, and with an edited map
abbrev pub committed : Origin → List Change → PropMap → Origin
committed o set props = record { identity = o.identity; trees = o.trees ++ effect_tree o.trees set ∷ []; maps = o.maps ++ (maps_now o ++ props ∷ []) ∷ [] }

abbrev pub edited : Origin → ℕ → PropMap → Origin
edited o n props = record { identity = o.identity; trees = o.trees; maps = o.maps ++ slice_set (maps_now o) n props ∷ [] }

abbrev pub world_after : World → Event → World
world_after w (MasterCommit set props) = record w { origin = committed w.origin set props }
world_after w (MasterEdit n props) = record w { origin = edited w.origin n props }
world_after w (At i what) = record w { rooms = option_map_or (λ room. slice_set w.rooms i (room_after w.origin room what)) (slice_get w.rooms i) w.rooms }

abbrev pub run : World → List Event → World
run w [] = w
run w (e ∷ es) = run (world_after w e) es

-- each event may be where it stands
abbrev pub IsRun : World → List Event → Type 0
IsRun w [] = Unit {0}
IsRun w (e ∷ es) = MayBe w e × IsRun (world_after w e) es
