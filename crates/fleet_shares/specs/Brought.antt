-- What a job's run brings from a master's row to a mirror's.
use Rattle.std.specs.Prelude.{◌≡◌, ◌<◌, ◌≤◌, ℕ, List, Some, Result, Ok, Err}
use Rattle.std.specs.Option.{option_map}
use Rattle.dump_load.specs.declared.change.Change.{Change}
use Rattle.fleet_disk.specs.declared.disk.Disk.{Ghosts}
use Rattle.fleet_jobs.specs.declared.order.Work.{Work}
use Rattle.fleet_jobs.specs.declared.order.Work.TheVariants.{Sync, Copy}
use Rattle.node_base.specs.Props.{PropMap}
use Rattle.store_share.specs.Locked.{HasProps, IsNewest}
use Rattle.store_share.specs.Seats.{known_by, seen_by}
use Rattle.store_share.specs.declared.seat.ReaderSeat.{ReaderSeat}
use Rattle.store_share.specs.declared.share.MasterShare.{MasterShare}
use Rattle.sync_core.specs.Copies as told
use Rattle.sync_core.specs.Deeds.{Calls, AsksLatest}
use Rattle.sync_core.specs.Mirror.{Commit, PutProps}
use Rattle.sync_core.specs.declared.fault.SyncFault.{SyncFault}
use Rattle.sync_core.specs.declared.standing.Standing.{Standing}
use Rattle.sync_job.specs.Runs.{IsLooked, IsSaid}
use Rattle.sync_job.specs.Said.{Spoken, Says}

-- a reader has seen that revision, with this set of changes
pub record HasSeen {L : Type 0} {r : _} (reader : ReaderSeat L r) (n : ℕ) (set : List Change) : Type 0 where
  pub within : n ≤ seen_by reader
  pub set_is : option_map (λ v. v.set) (known_by reader n) ≡ Some set

-- two rows agree at a number: a reader of each has seen that revision, with the same set of changes
abbrev pub AgreeAt : {M L : Type 0} {m : _} {r : _} → ReaderSeat M m → ReaderSeat L r → ℕ → Type 0
AgreeAt theirs ours n = (set : List Change) × HasSeen theirs n set × HasSeen ours n set

-- they agree at each number above the first and up to the second
abbrev pub Agree : {M L : Type 0} {m : _} {r : _} → ReaderSeat M m → ReaderSeat L r → ℕ → ℕ → Type 0
Agree theirs ours low high = (n : ℕ) → low < n → n ≤ high → AgreeAt theirs ours n

-- or from revision 0 on
abbrev pub AgreeUpTo : {M L : Type 0} {m : _} {r : _} → ReaderSeat M m → ReaderSeat L r → ℕ → Type 0
AgreeUpTo theirs ours high = (n : ℕ) → n ≤ high → AgreeAt theirs ours n

-- both know the same revision at each number up to that one: its set of changes and its tree
abbrev pub AreSame : {M L : Type 0} {m : _} {r : _} → ReaderSeat M m → ReaderSeat L r → ℕ → Type 0
AreSame theirs ours high = (n : ℕ) → n ≤ high → known_by ours n ≡ known_by theirs n

-- a revision with this set and these properties is the master's: a reader of each row has seen it with that set, and a book of the
-- master has the properties
pub record IsMasters {M L D : Type 0} {m : _} {r : _} {g : Ghosts D} (master : MasterShare M D m g) (theirs : ReaderSeat M m) (ours : ReaderSeat L r) (n : ℕ) (set : List Change) (props : PropMap) : Type 0 where
  pub master_has : HasSeen theirs n set
  pub mirror_has : HasSeen ours n set
  pub map : HasProps master n props

-- each revision that was committed is the master's
abbrev pub AreCopied : {M L D : Type 0} {m : _} {r : _} {g : _} → MasterShare M D m g → ReaderSeat M m → ReaderSeat L r → List Spoken → Type 0
AreCopied master theirs ours said =
    (n : ℕ) (set : List Change) (props : PropMap) → IsSaid (Says (Calls (Commit n set props)) told.Done) said → IsMasters master theirs ours n set props

-- and so are the properties that were put again
abbrev pub ArePut : {M D : Type 0} {m : _} {g : _} → MasterShare M D m g → List Spoken → Type 0
ArePut master said = (n : ℕ) (props : PropMap) → IsSaid (Says (Calls (PutProps n props)) told.Done) said → HasProps master n props

-- the mirror was brought up to the master: above the head that a look of the run told its row agrees with the master's, up to the head at
-- which the run left it, which is at least the newest revision that the master told in the run
pub record IsBrought {M L D : Type 0} {m : _} {r : _} {g : Ghosts D} (master : MasterShare M D m g) (theirs : ReaderSeat M m) (ours : ReaderSeat L r) (said : List Spoken) : Type 0 where
  pub standing : Standing
  pub looked : IsLooked standing said
  pub latest : ℕ
  pub answered : IsSaid (Says AsksLatest (told.Latest latest)) said
  pub newest : (seen : ℕ) × IsNewest master seen theirs latest
  pub head : ℕ
  pub risen : standing.head ≤ head
  pub all : latest ≤ head
  pub seen : head ≤ seen_by ours
  pub agree : Agree theirs ours standing.head head
  -- where the rows agreed up to the head that the look told, the mirror's revisions are the master's up to this one
  pub whole : AgreeUpTo theirs ours standing.head → AreSame theirs ours head

-- each of these revisions was given properties that the master has
abbrev pub ArePutFrom : {M D : Type 0} {m : _} {g : _} → MasterShare M D m g → List Spoken → ℕ → ℕ → Type 0
ArePutFrom master said low high = (n : ℕ) → low ≤ n → n ≤ high → (props : PropMap) × IsSaid (Says (Calls (PutProps n props)) told.Done) said × HasProps master n props

-- a synchronisation that ends well brings the mirror up, and a copying of properties gives each revision of its range the master's
abbrev pub Brings : {M L D : Type 0} {m : _} {r : _} {g : _} → Work → Result (Unit {0}) SyncFault → MasterShare M D m g → ReaderSeat M m → ReaderSeat L r → List Spoken → Type 0
Brings (Sync steal) (Ok u) master theirs ours said = IsBrought master theirs ours said
Brings (Sync steal) (Err f) master theirs ours said = Unit {0}
Brings (Copy low high) (Ok u) master theirs ours said = ArePutFrom master said low high
Brings (Copy low high) (Err f) master theirs ours said = Unit {0}
