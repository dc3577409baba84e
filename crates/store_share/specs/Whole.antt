-- What a book keeps.
use Rattle.std.specs.Prelude.{◌≡◌, ◌+◌, length, false}
use Rattle.fleet_disk.specs.declared.disk.Disk.{Ghosts}
use Rattle.repo_store.specs.Words.{repository_of, revisions_of, IsKept}
use Rattle.store_share.specs.Book.{head_of, is_stuck, notes_of, store_of}
use Rattle.store_share.specs.Shown.{Shows}
use Rattle.store_share.specs.declared.book.MasterBook.{MasterBook}

-- a stop keeps its store, and the row shows that up to the head, which is the newest revision unless a cell refused its box
pub record IsWhole {L D : Type 0} {r : _} {g : Ghosts D} (book : MasterBook L D r g) : Type 0 where
  pub kept : IsKept (store_of book)
  pub shown : Shows (head_of book + 1) (notes_of book) (repository_of (store_of book))
  pub newest : is_stuck book ≡ false → head_of book + 1 ≡ length (revisions_of (store_of book))
