-- What a book is to its caller.
use Rattle.std.specs.Prelude.{◌≡◌, ◌<◌, ◌≤◌, ◌+◌, ◌⊎◌, ℕ, Bool, false, List, length}
use Rattle.gate_log.specs.declared.fault.LogFault.TheVariants.{OutOfMemory}
use Rattle.node_base.specs.Props.{PropMap}
use Rattle.repo_core.specs.Repository.{Repository, Revision, props_at}
use Rattle.repo_core.specs.declared.fault.RepoFault.TheVariants.{NoSuchRevision}
use Rattle.repo_store.specs.Words.{repository_of, revisions_of}
use Rattle.repo_store.specs.declared.fault.StoreFault.{StoreFault}
use Rattle.repo_store.specs.declared.fault.StoreFault.TheVariants.{Repo, Log}
use Rattle.repo_store.specs.declared.store.RepoStore.{RepoStore}
use Rattle.store_share.specs.Row.{rev_at}
use Rattle.store_share.specs.Seats.{known_by, seen_by}
use Rattle.store_share.specs.declared.notes.RowNotes.{RowNotes}
use Rattle.store_share.specs.declared.seat.ReaderSeat.{ReaderSeat}
use Rattle.store_share.specs.declared.book.MasterBook.{MasterBook}

-- its store
abbrev pub store_of : {L D : Type 0} {r : _} {g : _} → MasterBook L D r g → RepoStore D g
store_of book = book.store

-- the newest revision that its row shows
abbrev pub head_of : {L D : Type 0} {r : _} {g : _} → MasterBook L D r g → ℕ
head_of book = book.head

-- a cell refused its box: the store has a revision that isn't shown
abbrev pub is_stuck : {L D : Type 0} {r : _} {g : _} → MasterBook L D r g → Bool
is_stuck book = book.is_stuck

-- what it knows of the row
abbrev pub notes_of : {L D : Type 0} {r : _} {g : _} → MasterBook L D r g → RowNotes
notes_of book = book.notes

-- its repository
abbrev pub repo_of : {L D : Type 0} {r : _} {g : _} → MasterBook L D r g → Repository
repo_of book = repository_of book.store

abbrev pub revs_of : {L D : Type 0} {r : _} {g : _} → MasterBook L D r g → List Revision
revs_of book = revisions_of book.store

-- its store stays, and what it shows
abbrev pub BookStays : {L D : Type 0} {r : _} {g : _} → MasterBook L D r g → MasterBook L D r g → Type 0
BookStays old new = (store_of new ≡ store_of old) × (head_of new ≡ head_of old) × (is_stuck new ≡ is_stuck old)

-- the newest revision is the last that its row shows
abbrev pub ShowsNewest : {L D : Type 0} {r : _} {g : _} → MasterBook L D r g → Type 0
ShowsNewest book = head_of book + 1 ≡ length (revs_of book)

-- the reader knows what it shows
abbrev pub KnowsShown : {L D : Type 0} {r : _} {g : _} → MasterBook L D r g → ReaderSeat L r → Type 0
KnowsShown book reader = (n : ℕ) → n ≤ head_of book → known_by reader n ≡ rev_at (repo_of book) n

-- why it gives nothing of that number: it shows none of it (21), or memory ran out (70)
abbrev pub IsFetchFault : {L D : Type 0} {r : _} {g : _} → MasterBook L D r g → ℕ → StoreFault → Type 0
IsFetchFault book number e = ((e ≡ Repo NoSuchRevision) × (head_of book < number)) ⊎ (e ≡ Log OutOfMemory)

-- it shows a revision of that number, and these are its properties
abbrev pub GivesProps : {L D : Type 0} {r : _} {g : _} → MasterBook L D r g → ℕ → PropMap → Type 0
GivesProps book number props = (number ≤ head_of book) × (props ≡ props_at (revs_of book) number)

-- it is the book of that store, and no cell has refused its box
abbrev pub IsBookOf : {L D : Type 0} {r : _} {g : _} → RepoStore D g → MasterBook L D r g → Type 0
IsBookOf store book = (store_of book ≡ store) × (is_stuck book ≡ false)

-- a number is no less than what the reader has seen, and than what the book shows
abbrev pub IsAtLeast : {L D : Type 0} {r : _} {g : _} → ReaderSeat L r → MasterBook L D r g → ℕ → Type 0
IsAtLeast reader book n = (seen_by reader ≤ n) × (head_of book ≤ n)

-- it is one of the two
abbrev pub IsOneOf : {L D : Type 0} {r : _} {g : _} → ReaderSeat L r → MasterBook L D r g → ℕ → Type 0
IsOneOf reader book n = (n ≡ seen_by reader) ⊎ (n ≡ head_of book)
