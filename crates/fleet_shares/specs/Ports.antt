-- A shared master as a port.
use Rattle.std.specs.Prelude.{◌≡◌, ◌≤◌, ◌⊎◌, ℕ, List, Some, Ok, Err}
use Rattle.std.specs.List.{AllByRecursion}
use Rattle.std.specs.Option.{option_map}
use Rattle.uuid.specs.Text.{hyphenated_text, lower}
use Rattle.node_base.specs.declared.refusal.Refusal.TheVariants as refusal
use Rattle.store_share.specs.Locked.{HasIdentity, HasProps, IsAbove, IsNewest}
use Rattle.store_share.specs.Seats.{known_by, seen_by}
use Rattle.store_share.specs.declared.seat.ReaderSeat.{ReaderSeat}
use Rattle.store_share.specs.declared.share.MasterShare.{MasterShare}
use Rattle.sync_core.specs.World.{Origin}
use Rattle.sync_job.specs.Questions.{Exchange, Identity, Latest, Fetch, FetchProps}
use Rattle.sync_job.specs.declared.master.MasterFault.{MasterFault}
use Rattle.sync_job.specs.declared.master.MasterFault.TheVariants.{Refused}
use Rattle.fleet_shares.specs.declared.master.SharedMaster.{SharedMaster}

-- of no state is it known that the master is at it: others may change it between the calls of a job
abbrev pub IsNowhere : Origin → Type 0
IsNowhere o = ⊥

-- the reader's seat
abbrev pub seat_of : {R L D : Type 0} {r : _} {g : _} → SharedMaster R L D r g → ReaderSeat L r
seat_of port = port.seat

-- the share
abbrev pub share_of : {R L D : Type 0} {r : _} {g : _} → SharedMaster R L D r g → MasterShare L D r g
share_of port = port.share.now

-- nothing is told of a revision: it is above a book's head (21), or memory ran out (70)
abbrev pub IsUntold : {L D : Type 0} {r : _} {g : _} → MasterShare L D r g → ℕ → MasterFault → Type 0
IsUntold share n f = ((f ≡ Refused refusal.NoSuchRevision) × IsAbove share n) ⊎ (f ≡ Refused refusal.OutOfMemory)

-- a question to a shared master is answered so, as a reader of its row has it: with the identity of a book; with a newest revision that the
-- reader has seen; with the set that the reader knows of a revision; and with the properties that a book has of it
abbrev pub IsToldTo : {L D : Type 0} {r : _} {g : _} → MasterShare L D r g → ReaderSeat L r → Exchange → Type 0
IsToldTo share reader (Identity (Ok u)) = (identity : List ℕ) × HasIdentity share identity × (u ≡ hyphenated_text lower identity)
IsToldTo share reader (Identity (Err f)) = f ≡ Refused refusal.OutOfMemory
IsToldTo share reader (Latest (Ok n)) = (n ≤ seen_by reader) × ((seen : ℕ) × IsNewest share seen reader n)
IsToldTo share reader (Latest (Err f)) = ⊥
IsToldTo share reader (Fetch n trees (Ok x)) = (n ≤ seen_by reader) × (option_map (λ v. v.set) (known_by reader n) ≡ Some x.set) × HasProps share n x.props
IsToldTo share reader (Fetch n trees (Err f)) = IsUntold share n f
IsToldTo share reader (FetchProps n (Ok p)) = HasProps share n p
IsToldTo share reader (FetchProps n (Err f)) = IsUntold share n f

-- since the port was as the first, over the same share, it was asked these, and so answered, as its reader has it
pub record WasTold {R L D : Type 0} {r : _} {g : _} (now first : SharedMaster R L D r g) (made : List Exchange) : Type 0 where
  pub share : share_of now ≡ share_of first
  pub told : AllByRecursion (IsToldTo (share_of first) (seat_of now)) made
