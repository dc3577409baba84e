-- What a call of a share was, of the book as the lock had it. What the book was before and after isn't known to who calls: there
-- were two books, each with all that a book keeps.
use Rattle.std.specs.Prelude.{◌≡◌, ◌<◌, ◌≤◌, ◌⊎◌, ℕ, List, Option, Some, None, Result}
use Rattle.std.specs.Option.{option_map_or}
use Rattle.fleet_disk.specs.declared.disk.Disk.{Ghosts}
use Rattle.node_base.specs.Props.{PropMap}
use Rattle.repo_core.specs.Repository.{props_at}
use Rattle.repo_store.specs.Words.{identity_of, repository_of, revisions_of, IsKept}
use Rattle.store_share.specs.Row.{cells_in, rev_at}
use Rattle.store_share.specs.declared.seat.ReaderSeat.{ReaderSeat}
use Rattle.store_share.specs.Book.{head_of, notes_of}
use Rattle.store_share.specs.Seats.{known_by}
use Rattle.sync_core.specs.Mirror.{Call}
use Rattle.sync_core.specs.declared.fault.SyncFault.{SyncFault}
use Rattle.sync_core.specs.declared.fault.SyncFault.TheVariants.{HolderRunning, OutOfMemory}
use Rattle.sync_core.specs.declared.lock_token.LockToken.{LockToken}
use Rattle.sync_core.specs.declared.reply.Reply.{Reply as Given}
use Rattle.mirror_share.specs.declared.calls.CallBook.{CallBook}
use Rattle.mirror_share.specs.declared.share.MirrorShare.{MirrorShare}
use Rattle.mirror_share.specs.Book.{master_of, store_in, holder_of, calls_of, jobs_of}
use Rattle.mirror_share.specs.Counts.{Counts}
use Rattle.mirror_share.specs.Places.{job_at}
use Rattle.mirror_share.specs.Stepped.{Stepped}

-- the cells of a share's row
abbrev pub row_of : {L D : Type 0} {r : _} {g : _} → MirrorShare L D r g → List ℕ
row_of share = share.row

-- the identity of a book's repository
pub record HasIdentity {L D : Type 0} {r : _} {g : Ghosts D} (share : MirrorShare L D r g) (identity : List ℕ) : Type 0 where
  pub book : CallBook L D r g
  pub is : identity ≡ identity_of (store_in book)

-- a step of the share's book, whose row is the share's
pub record IsStepOf {L D : Type 0} {r : _} {g : Ghosts D} (share : MirrorShare L D r g) (seat : ℕ) (call : Call) (result : Result Given SyncFault) : Type 0 where
  pub old : CallBook L D r g
  pub new : CallBook L D r g
  pub row : cells_in (notes_of (master_of old)) ≡ row_of share
  pub stepped : Stepped old new seat call result

-- a job came in: none of its token ran, and it has a place that nobody had
pub record IsEntryOf {L D : Type 0} {r : _} {g : Ghosts D} (share : MirrorShare L D r g) (token : List ℕ) (seat : ℕ) : Type 0 where
  pub old : CallBook L D r g
  pub new : CallBook L D r g
  pub alone : (i : ℕ) → job_at (jobs_of old) i ≡ Some token → ⊥
  pub free : job_at (jobs_of old) seat ≡ None
  pub there : job_at (jobs_of new) seat ≡ Some token

-- one of the token runs at some place of a book, which is told (55)
pub record RunsThere {L D : Type 0} {r : _} {g : Ghosts D} (share : MirrorShare L D r g) (token : List ℕ) (f : SyncFault) : Type 0 where
  pub book : CallBook L D r g
  pub seat : ℕ
  pub runs : job_at (jobs_of book) seat ≡ Some token
  pub text : LockToken
  pub told : f ≡ HolderRunning text
  pub says : text.bytes.items ≡ token

-- why a job isn't let in: that, or want of memory (70)
abbrev pub IsKeptOut : {L D : Type 0} {r : _} {g : _} → MirrorShare L D r g → List ℕ → SyncFault → Type 0
IsKeptOut share token f = (f ≡ OutOfMemory) ⊎ RunsThere share token f

-- a job left, from a seat with this hand: its place is free, and there is no holder from then on where it had the hand
pub record IsLeaveOf {L D : Type 0} {r : _} {g : Ghosts D} (share : MirrorShare L D r g) (seat : ℕ) (hand : Option Counts) : Type 0 where
  pub old : CallBook L D r g
  pub new : CallBook L D r g
  pub left : job_at (jobs_of new) seat ≡ None
  pub holder : holder_of new ≡ option_map_or (λ k. None) hand (holder_of old)
  pub same : (master_of new ≡ master_of old) × (calls_of new ≡ calls_of old)

-- of a book that a stop keeps the reader knows what its repository has up to its head
pub record IsShownTo {L D : Type 0} {r : _} {g : Ghosts D} (share : MirrorShare L D r g) (reader : ReaderSeat L r) (last : ℕ) : Type 0 where
  pub book : CallBook L D r g
  pub kept : IsKept (store_in book)
  pub head : head_of (master_of book) ≡ last
  pub known : (i : ℕ) → i ≤ last → known_by reader i ≡ rev_at (repository_of (store_in book)) i

-- the newest revision: the greater of what the reader had seen and of what a book shows
pub record IsNewest {L D : Type 0} {r : _} {g : Ghosts D} (share : MirrorShare L D r g) (seen : ℕ) (reader : ReaderSeat L r) (newest : ℕ) : Type 0 where
  pub head : ℕ
  pub shown : IsShownTo share reader head
  pub most : head ≤ newest
  pub one : (newest ≡ seen) ⊎ (newest ≡ head)

-- the properties that a book's repository has at a number up to its head
pub record HasProps {L D : Type 0} {r : _} {g : Ghosts D} (share : MirrorShare L D r g) (number : ℕ) (map : PropMap) : Type 0 where
  pub book : CallBook L D r g
  pub within : number ≤ head_of (master_of book)
  pub props : map ≡ props_at (revisions_of (store_in book)) number

-- a number above a book's head
pub record IsAbove {L D : Type 0} {r : _} {g : Ghosts D} (share : MirrorShare L D r g) (number : ℕ) : Type 0 where
  pub book : CallBook L D r g
  pub above : head_of (master_of book) < number
