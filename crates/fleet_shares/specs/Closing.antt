-- What comes of a fleet's stores.
use Rattle.std.specs.Prelude.{◌≡◌, ◌⊎◌, ◌<◌, ◌≤◌, ℕ, Bool, true, false, List, Option, Some, None, Result, Ok}
use Rattle.fleet_disk.specs.declared.disk.Disk.{Ghosts}
use Rattle.mirror_share.specs.Names.{opened_in}
use Rattle.mirror_share.specs.Seen.{HasSeenAll}
use Rattle.mirror_share.specs.declared.opened.OpenedMirror.{OpenedMirror}
use Rattle.repo_core.specs.Repository.{Repository, head_of}
use Rattle.repo_store.specs.Words.{repository_of, revisions_of}
use Rattle.repo_store.specs.declared.store.RepoStore.{RepoStore}
use Rattle.store_share.specs.Book.{is_stuck, store_of}
use Rattle.store_share.specs.Opened.{store_in}
use Rattle.store_share.specs.Seats.{seen_by}
use Rattle.store_share.specs.declared.book.MasterBook.{MasterBook}
use Rattle.store_share.specs.declared.name.RowName.{Ghosts as RowGhosts}
use Rattle.store_share.specs.declared.opened.OpenedStore.{OpenedStore}
use Rattle.store_share.specs.declared.seat.ReaderSeat.{ReaderSeat}
use Rattle.fleet_shares.specs.Agreed.{Adds, BringsUp, IsFront, IsOther}
use Rattle.fleet_shares.specs.Ran.{named_by}
use Rattle.fleet_shares.specs.Runners.{has_at}
use Rattle.fleet_shares.specs.Stores.{store_at}
use Rattle.fleet_shares.specs.declared.brings.Brings.{Brings}
use Rattle.fleet_shares.specs.declared.shares.FleetReaders.{FleetReaders}
use Rattle.fleet_shares.specs.declared.stores.FleetStores.{FleetStores}
use Rattle.fleet_shares.specs.declared.stores.OpenedFleet.{OpenedFleet}

-- a store's revisions aren't all shown, since a cell of its row refused its box; or it has fewer than so many
abbrev pub IsLost : {L D : Type 0} {g : _} → RowGhosts L → ℕ → RepoStore D g → Type 0
IsLost {L} {D} {g} r head store = ((book : MasterBook L D r g) × (store_of book ≡ store) × (is_stuck book ≡ true)) ⊎ (head_of (revisions_of store) < head)

-- whether a store has what a reader saw when it was opened
abbrev pub HasStayed : {L D : Type 0} {r : _} {g : _} → Bool → ReaderSeat L r → RepoStore D g → Type 0
HasStayed true seat store = (x : Repository) → HasSeenAll seat x → IsFront x (repository_of store)
HasStayed {r = r} false seat store = IsLost r (seen_by seat) store

-- whether a store was brought up to a master, which had such a head: it has what a reader saw when it was opened, no fewer revisions than
-- the master had, and what it has besides is the master's
abbrev pub IsBroughtBy : {L D : Type 0} {r : _} {g : _} → Bool → ReaderSeat L r → ℕ → RepoStore D g → Repository → Type 0
IsBroughtBy true seat had store master = (x : Repository) → HasSeenAll seat x → IsFront x (repository_of store) × (had ≤ head_of (revisions_of store)) × Adds (head_of x.revisions) (repository_of store) master
IsBroughtBy {r = r} false seat had store master = IsLost r (seen_by seat) store ⊎ (head_of (revisions_of store) < had) ⊎ IsOther (seen_by seat) (repository_of store) master

-- the same of a slot
abbrev pub IsSettled : {L D : Type 0} {r : _} {g : _} → Bool → Option (RepoStore D g) → Option (ReaderSeat L r) → ℕ → Repository → Type 0
IsSettled up None opened had master = Unit {0}
IsSettled up (Some s) None had master = up ≡ true → ⊥
IsSettled up (Some s) (Some seat) had master = IsBroughtBy up seat had s master

-- why a mirror wasn't brought up to its master, of which both had such heads: the one or the other lost what it had, or the mirror has
-- fewer revisions than the master had, or one besides that isn't the master's
abbrev pub IsUnlike : {M L D : Type 0} {g : _} → RowGhosts M → RowGhosts L → ℕ → ℕ → RepoStore D g → RepoStore D g → Type 0
IsUnlike m r master_had mirror_had master mirror = IsLost m master_had master ⊎ IsLost r mirror_had mirror ⊎ (head_of (revisions_of mirror) < master_had) ⊎ IsOther mirror_had (repository_of mirror) (repository_of master)

-- whether a slot's mirror was brought up to the master since readers of both saw all
abbrev pub IsBroughtSince : {M L D : Type 0} {m : _} {r : _} {g : _} → Bool → ReaderSeat M m → Option (ReaderSeat L r) → RepoStore D g → Option (RepoStore D g) → Type 0
IsBroughtSince up t ours master None = Unit {0}
IsBroughtSince up t None master (Some s) = up ≡ true → ⊥
IsBroughtSince true t (Some o) master (Some s) = (m x : Repository) → HasSeenAll t m → HasSeenAll o x → BringsUp m x (repository_of master) (repository_of s)
IsBroughtSince {m = m} {r = r} false t (Some o) master (Some s) = IsUnlike m r (seen_by t) (seen_by o) master s

-- so it is of the mirror of each slot
pub record AreBroughtSince {M L0 L1 L2 L3 D : Type 0} {m : _} {r0 : _} {r1 : _} {r2 : _} {r3 : _} {g : Ghosts D} (brings : Brings) (readers : FleetReaders M L0 L1 L2 L3 m r0 r1 r2 r3) (stores : FleetStores D g) : Type 0 where
  pub first : IsBroughtSince brings.first readers.master readers.first stores.master stores.first
  pub second : IsBroughtSince brings.second readers.master readers.second stores.master stores.second
  pub third : IsBroughtSince brings.third readers.master readers.third stores.master stores.third
  pub fourth : IsBroughtSince brings.fourth readers.master readers.fourth stores.master stores.fourth

-- the reader of an opened mirror has seen all of it
abbrev pub IsReadBy : {L D : Type 0} {r : _} {g : _} → Option (OpenedMirror D g) → Option (ReaderSeat L r) → Type 0
IsReadBy None reader = Unit {0}
IsReadBy (Some o) None = ⊥
IsReadBy (Some o) (Some seat) = HasSeenAll seat (repository_of (store_in (opened_in o)))

-- these are the seats of all readers, each of which there was memory for
pub record AreReaders {M L0 L1 L2 L3 E : Type 0} {m : _} {r0 : _} {r1 : _} {r2 : _} {r3 : _} (master : Result (ReaderSeat M m) E) (first : Result (Option (ReaderSeat L0 r0)) E) (second : Result (Option (ReaderSeat L1 r1)) E) (third : Result (Option (ReaderSeat L2 r2)) E) (fourth : Result (Option (ReaderSeat L3 r3)) E) (readers : FleetReaders M L0 L1 L2 L3 m r0 r1 r2 r3) : Type 0 where
  pub master_is : master ≡ Ok readers.master
  pub first_is : first ≡ Ok readers.first
  pub second_is : second ≡ Ok readers.second
  pub third_is : third ≡ Ok readers.third
  pub fourth_is : fourth ≡ Ok readers.fourth

-- they have seen all that was opened
pub record HaveSeenAll {M L0 L1 L2 L3 D : Type 0} {m : _} {r0 : _} {r1 : _} {r2 : _} {r3 : _} {g : Ghosts D} (opened : OpenedFleet D g) (readers : FleetReaders M L0 L1 L2 L3 m r0 r1 r2 r3) : Type 0 where
  pub master : HasSeenAll readers.master (repository_of (store_in opened.master))
  pub first : IsReadBy opened.first readers.first
  pub second : IsReadBy opened.second readers.second
  pub third : IsReadBy opened.third readers.third
  pub fourth : IsReadBy opened.fourth readers.fourth

-- whether a mirror was brought up to its master, by how both were and how they are
abbrev pub ComesOut : {M L D : Type 0} {g : _} → RowGhosts M → RowGhosts L → Bool → RepoStore D g → RepoStore D g → RepoStore D g → RepoStore D g → Type 0
ComesOut m r true old_master old_mirror master mirror = BringsUp (repository_of old_master) (repository_of old_mirror) (repository_of master) (repository_of mirror)
ComesOut m r false old_master old_mirror master mirror = IsUnlike m r (head_of (revisions_of old_master)) (head_of (revisions_of old_mirror)) master mirror

-- the same of a slot, by how both were opened
abbrev pub IsBroughtIn : {M L D : Type 0} {g : _} → RowGhosts M → RowGhosts L → Bool → OpenedStore D g → Option (OpenedMirror D g) → RepoStore D g → Option (RepoStore D g) → Type 0
IsBroughtIn m r up first None master store = Unit {0}
IsBroughtIn m r up first (Some o) master None = Unit {0}
IsBroughtIn m r up first (Some o) master (Some s) = ComesOut m r up (store_in first) (store_in (opened_in o)) master s

-- and of all slots
pub record AreBroughtIn {M L0 L1 L2 L3 D : Type 0} {g : Ghosts D} (m : RowGhosts M) (r0 : RowGhosts L0) (r1 : RowGhosts L1) (r2 : RowGhosts L2) (r3 : RowGhosts L3) (opened : OpenedFleet D g) (stores : FleetStores D g) (brings : Brings) : Type 0 where
  pub first : IsBroughtIn m r0 brings.first opened.master opened.first stores.master stores.first
  pub second : IsBroughtIn m r1 brings.second opened.master opened.second stores.master stores.second
  pub third : IsBroughtIn m r2 brings.third opened.master opened.third stores.master stores.third
  pub fourth : IsBroughtIn m r3 brings.fourth opened.master opened.fourth stores.master stores.fourth

-- whether the mirror of a slot was
abbrev pub brings_at : Brings → ℕ → Bool
brings_at brings slot = has_at slot brings.first brings.second brings.third brings.fourth

-- the same whatever cells the rows have, by the stores that were given and those that came back
abbrev pub ComesOutNow : {D : Type 0} {g : _} → Bool → RepoStore D g → RepoStore D g → RepoStore D g → RepoStore D g → Type 0
ComesOutNow true old_master old_mirror master mirror = BringsUp (repository_of old_master) (repository_of old_mirror) (repository_of master) (repository_of mirror)
ComesOutNow false old_master old_mirror master mirror = (m : List ℕ) × ((r : List ℕ) × IsUnlike (named_by m) (named_by r) (head_of (revisions_of old_master)) (head_of (revisions_of old_mirror)) master mirror)

abbrev pub IsJudged : {D : Type 0} {g : _} → FleetStores D g → FleetStores D g → ℕ → Bool → Type 0
IsJudged {D} {g} old new slot up = (before after : RepoStore D g) → store_at old slot ≡ Some before → store_at new slot ≡ Some after → ComesOutNow up old.master before new.master after
