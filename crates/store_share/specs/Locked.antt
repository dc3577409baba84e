-- What a call of a share was, of the book as the lock had it. What the book was before and after isn't known to who calls: there
-- were two books, each with all that a book keeps.
use Rattle.std.specs.Prelude.{◌≡◌, ◌<◌, ◌≤◌, ◌⊎◌, ℕ, List, Option, Result}
use Rattle.fleet_disk.specs.declared.disk.Disk.{Ghosts}
use Rattle.gate_log.specs.declared.fault.LogFault.TheVariants.{OutOfMemory}
use Rattle.dump_load.specs.declared.change.Change.{Change}
use Rattle.node_base.specs.Path.{Name}
use Rattle.node_base.specs.Props.{PropMap}
use Rattle.repo_core.specs.Refusals.{by_repository, change_fault, commit_fault, with_value}
use Rattle.repo_core.specs.Repository.{Revision, props_at}
use Rattle.repo_core.specs.declared.entry.Entry.{Entry}
use Rattle.repo_core.specs.declared.entry.Entry.TheVariants.{Mapped}
use Rattle.repo_core.specs.declared.expected.Expected.{Expected}
use Rattle.repo_core.specs.declared.fault.RepoFault.{RepoFault}
use Rattle.repo_core.specs.declared.fault.RepoFault.TheVariants.{NoSuchRevision}
use Rattle.repo_store.specs.Changes.{next_entry}
use Rattle.repo_store.specs.Words.{identity_of, repository_of, revisions_of, IsKept}
use Rattle.repo_store.specs.declared.fault.StoreFault.{StoreFault}
use Rattle.repo_store.specs.declared.fault.StoreFault.TheVariants.{Repo, Log}
use Rattle.store_share.specs.Row.{rev_at}
use Rattle.store_share.specs.Book.{head_of, store_of}
use Rattle.store_share.specs.Changes.{Commits, Edits}
use Rattle.store_share.specs.Seats.{known_by}
use Rattle.store_share.specs.declared.book.MasterBook.{MasterBook}
use Rattle.store_share.specs.declared.seat.ReaderSeat.{ReaderSeat}
use Rattle.store_share.specs.declared.share.MasterShare.{MasterShare}

-- the cells of a share's row
abbrev pub row_of : {L D : Type 0} {r : _} {g : _} → MasterShare L D r g → List ℕ
row_of share = share.row

-- the identity of a book's repository
pub record HasIdentity {L D : Type 0} {r : _} {g : Ghosts D} (share : MasterShare L D r g) (identity : List ℕ) : Type 0 where
  pub book : MasterBook L D r g
  pub is : identity ≡ identity_of (store_of book)

-- of a book that a stop keeps the reader knows what its repository has up to its head
pub record IsShownTo {L D : Type 0} {r : _} {g : Ghosts D} (share : MasterShare L D r g) (reader : ReaderSeat L r) (last : ℕ) : Type 0 where
  pub book : MasterBook L D r g
  pub kept : IsKept (store_of book)
  pub head : head_of book ≡ last
  pub known : (i : ℕ) → i ≤ last → known_by reader i ≡ rev_at (repository_of (store_of book)) i

-- the newest revision: the greater of what the reader had seen and of what a book shows
pub record IsNewest {L D : Type 0} {r : _} {g : Ghosts D} (share : MasterShare L D r g) (seen : ℕ) (reader : ReaderSeat L r) (newest : ℕ) : Type 0 where
  pub head : ℕ
  pub shown : IsShownTo share reader head
  pub most : head ≤ newest
  pub one : (newest ≡ seen) ⊎ (newest ≡ head)

-- the properties that a book's repository has at a number up to its head
pub record HasProps {L D : Type 0} {r : _} {g : Ghosts D} (share : MasterShare L D r g) (number : ℕ) (map : PropMap) : Type 0 where
  pub book : MasterBook L D r g
  pub within : number ≤ head_of book
  pub props : map ≡ props_at (revisions_of (store_of book)) number

-- a number above a book's head
pub record IsAbove {L D : Type 0} {r : _} {g : Ghosts D} (share : MasterShare L D r g) (number : ℕ) : Type 0 where
  pub book : MasterBook L D r g
  pub above : head_of book < number

-- a commit by a book: of this entry over its revisions, for which this refusal is due
pub record IsCommitOf {L D : Type 0} {r : _} {g : Ghosts D} (share : MasterShare L D r g) (entry : List Revision → Entry) (due : List Revision → Option RepoFault) (result : Result ℕ StoreFault) : Type 0 where
  pub old : MasterBook L D r g
  pub new : MasterBook L D r g
  pub commits : Commits (entry (revisions_of (store_of old))) (due (revisions_of (store_of old))) old new result

-- a change of properties by a book: by this entry over its revisions, for which this refusal is due
pub record IsEditOf {L D : Type 0} {r : _} {g : Ghosts D} {T : Type 0} (share : MasterShare L D r g) (entry : List Revision → Entry) (due : List Revision → Option RepoFault) (result : Result T StoreFault) : Type 0 where
  pub old : MasterBook L D r g
  pub new : MasterBook L D r g
  pub edits : Edits (entry (revisions_of (store_of old))) (due (revisions_of (store_of old))) old new result

-- a commit by a book: of that set against that base, with these properties
abbrev pub IsSetOf : {L D : Type 0} {r : _} {g : Ghosts D} → MasterShare L D r g → ℕ → List Change → PropMap → Result ℕ StoreFault → Type 0
IsSetOf share base set props result = IsCommitOf share (λ x. next_entry x set props) (λ x. commit_fault x base (next_entry x set props)) result

-- a change of one property by a book
abbrev pub IsPropOf : {L D : Type 0} {r : _} {g : Ghosts D} {T : Type 0} → MasterShare L D r g → ℕ → Name → Option (List ℕ) → Expected → Result T StoreFault → Type 0
IsPropOf share number name value expected result =
    IsEditOf share (λ x. Mapped number (with_value (props_at x number) name value)) (λ x. change_fault x number name value expected) result

-- a change by a book: by that entry, whatever its revisions are
abbrev pub IsChangeOf : {L D : Type 0} {r : _} {g : Ghosts D} {T : Type 0} → MasterShare L D r g → Entry → Result T StoreFault → Type 0
IsChangeOf share entry result = IsEditOf share (λ _. entry) (λ x. by_repository x entry) result

-- a book gives nothing of a number: it shows none of it (21), or memory ran out (70)
abbrev pub IsUnfetched : StoreFault → Type 0
IsUnfetched e = (e ≡ Repo NoSuchRevision) ⊎ (e ≡ Log OutOfMemory)

-- 21 comes only where a book shows none of it
abbrev pub TellsAbove : {L D : Type 0} {r : _} {g : Ghosts D} → MasterShare L D r g → ℕ → StoreFault → Type 0
TellsAbove share number e = e ≡ Repo NoSuchRevision → IsAbove share number
