-- What a job knows, and the calls that it may make.
use Rattle.std.specs.Prelude.{◌≡◌, ℕ, ◌+◌, ◌<◌, ◌≤◌, ◌==◌, Bool, true, false, List, [], ◌∷◌, Option, Some, None, if◌then◌else◌}
use Rattle.node_base.specs.Props.{PropMap}
use Rattle.dump_load.specs.declared.change.Change.{Change}
use Rattle.sync_core.specs.Names.{Number, Absent, Spelt}
use Rattle.sync_core.specs.declared.resting.Resting.TheVariants as resting
use Rattle.sync_core.specs.Mirror.{Resting, HasShape, Call, Init, TakeLock, StealLock, ReleaseLock, SetCopying, Commit, PutProps, SetMerged, ClearCopying, Look, Reply, Done, Seen, Refused}

-- what a job is to do: initialise from a URL, copy revisions under a token (and steal the lock, where that is asked), or copy
-- properties again under a token
pub data Order : Type 0 where
  Initialise : (url : List ℕ) → Order
  Sync : (token : List ℕ) → (steal : Bool) → Order
  CopyProps : (token : List ℕ) → Order

-- a job has not made its first call, has had its lock answered, or makes no call any more
pub data Stage : Type 0 where
  Begun : Stage
  Locked : Stage
  Over : Stage

-- what a job was given of a revision, its set of changes where it asked for that, and at which moment of the master
pub record Fetched : Type 0 where
  pub number : ℕ
  pub set : Option (List Change)
  pub props : PropMap
  pub moment : ℕ

-- what a job has been answered
pub record Job : Type 0 where
  pub order : Order
  pub stage : Stage
  -- by the master: its identity, its head, and what was fetched since the job's lock was answered, the newest first
  pub identity : Option (List ℕ)
  pub latest : Option ℕ
  pub fetched : List Fetched
  -- by the mirror: whether it has looked since its lock was answered, and what is merged, what is being copied and the head,
  -- as its last look and its own accepted calls since left them
  pub looked : Bool
  pub merged : Number
  pub copying : Number
  pub head : ℕ
  -- the revision whose properties it put last
  pub put : Option ℕ

abbrev pub begun : Order → Job
begun order = record { order = order; stage = Begun; identity = None; latest = None; fetched = []; looked = false; merged = Absent; copying = Absent; head = 0; put = None }

-- the last that was fetched of a number
abbrev pub last_fetch : List Fetched → ℕ → Option Fetched
last_fetch [] n = None
last_fetch (f ∷ fs) n = if f.number == n then Some f else last_fetch fs n

-- the set and the map are those of the last fetch of that number
pub record GivesSet (fetched : List Fetched) (n : ℕ) (set : List Change) (props : PropMap) : Type 0 where
  pub it : Fetched
  pub last : last_fetch fetched n ≡ Some it
  pub the_set : it.set ≡ Some set
  pub the_map : it.props ≡ props

-- the map is that of the last fetch of that number
pub record GivesMap (fetched : List Fetched) (n : ℕ) (props : PropMap) : Type 0 where
  pub it : Fetched
  pub last : last_fetch fetched n ≡ Some it
  pub the_map : it.props ≡ props

abbrev pub is_sync_order : Order → Bool
is_sync_order (Initialise url) = false
is_sync_order (Sync token steal) = true
is_sync_order (CopyProps token) = false

-- the token of an order's lock, and whether it is to be stolen
abbrev pub locks_with : Order → Option (List ℕ × Bool)
locks_with (Initialise url) = None
locks_with (Sync token steal) = Some (token, steal)
locks_with (CopyProps token) = Some (token, false)

-- a job that has its lock, by its own knowledge at a mirror of that shape
pub record KnowsShape (job : Job) (shape : Resting) : Type 0 where
  pub locked : job.stage ≡ Locked
  pub fits : HasShape shape job.merged job.copying job.head

-- the first call of an init job: its order's URL, the identity that the master told, and the map that it gave of revision 0
pub record MayInit (job : Job) (url uuid : List ℕ) (props : PropMap) : Type 0 where
  pub begun : job.stage ≡ Begun
  pub order : job.order ≡ Initialise url
  pub identity : job.identity ≡ Some uuid
  pub gives : GivesMap job.fetched 0 props

-- the first call of the others
pub record MayLock (job : Job) (token : List ℕ) (steal : Bool) : Type 0 where
  pub begun : job.stage ≡ Begun
  pub order : locks_with job.order ≡ Some (token, steal)

-- the next number, where the master has more
pub record MaySet (job : Job) (n : ℕ) : Type 0 where
  pub sync : is_sync_order job.order ≡ true
  pub idle : KnowsShape job resting.Idle
  pub next : n ≡ job.head + 1
  pub latest : ℕ
  pub told : job.latest ≡ Some latest
  pub more : job.head < latest

-- the revision that is being copied, as it was fetched last
pub record MayCommit (job : Job) (n : ℕ) (set : List Change) (props : PropMap) : Type 0 where
  pub sync : is_sync_order job.order ≡ true
  pub copying : KnowsShape job (resting.Copying n)
  pub gives : GivesSet job.fetched n set props

-- a sync job puts properties of the revision that it has committed, a copying job of each that is merged
abbrev pub MayPutNumber : Order → Job → ℕ → Type 0
MayPutNumber (Initialise url) job n = ⊥
MayPutNumber (Sync token steal) job n = HasShape (resting.Committed n) job.merged job.copying job.head
MayPutNumber (CopyProps token) job n = (merged : ℕ) × (job.merged ≡ Spelt merged) × (n ≤ merged)

-- properties as they were fetched last
pub record MayPut (job : Job) (n : ℕ) (props : PropMap) : Type 0 where
  pub locked : job.stage ≡ Locked
  pub number : MayPutNumber job.order job n
  pub gives : GivesMap job.fetched n props

-- the revision that is committed, once its properties were put again
pub record MayMerge (job : Job) (n : ℕ) : Type 0 where
  pub sync : is_sync_order job.order ≡ true
  pub committed : KnowsShape job (resting.Committed n)
  pub own_put : job.put ≡ Some n

pub record MayClear (job : Job) : Type 0 where
  pub sync : is_sync_order job.order ≡ true
  pub merged : KnowsShape job resting.Merged

-- the calls that a job may make
abbrev pub Lawful : Job → Call → Type 0
Lawful job (Init url uuid props) = MayInit job url uuid props
Lawful job (TakeLock token) = MayLock job token false
Lawful job (StealLock token) = MayLock job token true
Lawful job ReleaseLock = job.stage ≡ Locked
Lawful job (SetCopying n) = MaySet job n
Lawful job (Commit n set props) = MayCommit job n set props
Lawful job (PutProps n props) = MayPut job n props
Lawful job (SetMerged n) = MayMerge job n
Lawful job ClearCopying = MayClear job
Lawful job Look = job.stage ≡ Locked

-- what a job has once the master told its identity or its newest revision, or gave what it has of a number at that moment of it
abbrev pub with_identity : Job → List ℕ → Job
with_identity job u = record job { identity = Some u }

abbrev pub with_latest : Job → ℕ → Job
with_latest job n = record job { latest = Some n }

abbrev pub with_fetched : Job → ℕ → Option (List Change) → PropMap → ℕ → Job
with_fetched job n set props moment = record job { fetched = record { number = n; set = set; props = props; moment = moment } ∷ job.fetched }

-- once its lock is answered, what it fetched and saw before counts no more
abbrev pub locked : Job → Job
locked job = record job { stage = Locked; fetched = []; looked = false }

-- what a job has after its call was done
abbrev pub done_by : Job → Call → Job
done_by job (Init url uuid props) = record job { stage = Over }
done_by job (TakeLock token) = locked job
done_by job (StealLock token) = locked job
done_by job ReleaseLock = record job { stage = Over }
done_by job (SetCopying n) = record job { copying = Spelt n }
done_by job (Commit n set props) = record job { head = n }
done_by job (PutProps n props) = record job { put = Some n }
done_by job (SetMerged n) = record job { merged = Spelt n }
done_by job ClearCopying = record job { copying = Absent }
done_by job Look = job

-- a first call that is refused, for whatever cause, is the last, and so is a release
abbrev pub refused_to : Job → Call → Job
refused_to job (Init url uuid props) = record job { stage = Over }
refused_to job (TakeLock token) = record job { stage = Over }
refused_to job (StealLock token) = record job { stage = Over }
refused_to job ReleaseLock = record job { stage = Over }
refused_to job _ = job

-- what a job has after a reply
abbrev pub answered : Job → Call → Reply → Job
answered job call Done = done_by job call
answered job call (Seen r) = record job { looked = true; merged = r.merged; copying = r.copying; head = r.head }
answered job call (Refused why) = refused_to job call
