-- What a shared mirror's book is, and what its ledgers count.
use Rattle.std.specs.Prelude.{ℕ, List, Option, is_some}
use Rattle.repo_store.specs.Words.{revisions_of}
use Rattle.store_share.specs.declared.book.MasterBook.{MasterBook}
use Rattle.mirror_share.specs.Book.{holder_of, is_stuck_in, jobs_of, master_of, store_in}
use Rattle.mirror_share.specs.Books.{IsBookKept, IsCounted, IsLocked}
use Rattle.mirror_share.specs.Counts.{Counts, counts_as}
use Rattle.mirror_share.specs.declared.book.MirrorBook.{MirrorBook}
use Rattle.mirror_share.specs.declared.calls.CallBook.{CallBook}
use Rattle.mirror_share.specs.declared.hand.Hand.{Hand}
use Rattle.mirror_share.specs.declared.ledgers.Ledgers.{Ledgers}

-- its store, with the calls that were taken
abbrev pub mirror_of : {L D : Type 0} {r : _} {g : _} → MirrorBook L D r g → CallBook L D r g
mirror_of book = book.book

-- what ledgers count of a mirror's numbers
abbrev pub counted_in : {L : Type 0} → Ledgers L → Counts
counted_in ledgers = counts_as ledgers.merged.total ledgers.copying.total ledgers.head.total

-- they count those of a book, and its holder
abbrev pub IsCountedIn : {L D : Type 0} {r : _} {g : _} → CallBook L D r g → Ledgers L → Type 0
IsCountedIn book ledgers = IsCounted (is_stuck_in book) (revisions_of (store_in book)) (holder_of book) (counted_in ledgers) ledgers.holder.total

-- the lock of a book is set where somebody holds it
abbrev pub IsLockedIn : {L D : Type 0} {r : _} {g : _} → CallBook L D r g → Type 0
IsLockedIn book = IsLocked (is_stuck_in book) (revisions_of (store_in book)) (holder_of book)

-- both, and the hand is spare just where nobody holds the lock
abbrev pub IsKeptIn : {L D : Type 0} {r : _} {g : _} → CallBook L D r g → Ledgers L → Option (Hand L) → Type 0
IsKeptIn book ledgers spare = IsBookKept (is_stuck_in book) (revisions_of (store_in book)) (holder_of book) (counted_in ledgers) ledgers.holder.total (is_some spare)

-- so it is in a mirror's book
abbrev pub KeepsCounts : {L D : Type 0} {r : _} {g : _} → MirrorBook L D r g → Type 0
KeepsCounts book = IsKeptIn book.book book.ledgers book.spare

-- its store with what the row shows of it, and the tokens of the jobs that run
abbrev pub master_in : {L D : Type 0} {r : _} {g : _} → MirrorBook L D r g → MasterBook L D r g
master_in book = master_of book.book

abbrev pub jobs_in : {L D : Type 0} {r : _} {g : _} → MirrorBook L D r g → List (Option (List ℕ))
jobs_in book = jobs_of book.book
