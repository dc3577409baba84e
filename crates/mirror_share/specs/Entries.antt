-- What taking an entry makes of a book.
use Rattle.std.specs.Prelude.{◌⊎◌, Option, Result, Ok, Err}
use Rattle.repo_core.specs.declared.entry.Entry.{Entry}
use Rattle.repo_core.specs.declared.fault.RepoFault.{RepoFault}
use Rattle.repo_store.specs.declared.fault.StoreFault.{StoreFault}
use Rattle.store_share.specs.declared.book.MasterBook.{MasterBook}
use Rattle.store_share.specs.Changes.{IsAccepted, IsLeft, IsBrokenOff, IsHidden}

-- an entry of which the repository refuses this: it is written and shown; or nothing changes; or the device fails; or its cell
-- refuses it, and it stands
abbrev pub Takes : {L D : Type 0} {r : _} {g : _} → Entry → Option RepoFault → MasterBook L D r g → MasterBook L D r g → Result (Unit {0}) StoreFault → Type 0
Takes entry due old new (Ok done) = IsAccepted entry due old new
Takes entry due old new (Err e) = IsLeft entry due old new e ⊎ IsBrokenOff entry due old new e ⊎ IsHidden entry due old new e
