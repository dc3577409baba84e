-- What a change of a book comes to.
use Rattle.std.specs.Prelude.{◌≡◌, ◌⊎◌, ◌+◌, ℕ, List, length, true, false, Option, None, Result, Ok, Err}
use Rattle.dump_load.specs.declared.change.Change.{Change}
use Rattle.node_base.specs.Path.{Name}
use Rattle.node_base.specs.Props.{PropMap}
use Rattle.fleet_disk.specs.declared.disk.Disk.{Ghosts}
use Rattle.gate_log.specs.declared.fault.LogFault.TheVariants.{Failed}
use Rattle.repo_core.specs.Refusals.{by_repository, change_fault, commit_fault, with_value}
use Rattle.repo_core.specs.Repository.{props_at}
use Rattle.repo_core.specs.declared.entry.Entry.{Entry}
use Rattle.repo_core.specs.declared.entry.Entry.TheVariants.{Revised, Mapped}
use Rattle.repo_core.specs.declared.expected.Expected.{Expected}
use Rattle.repo_core.specs.declared.fault.RepoFault.{RepoFault}
use Rattle.repo_store.specs.Changes.{next_entry, IsTaken, IsBroken, Refuses, Stays}
use Rattle.repo_store.specs.Words.{repository_of, revisions_of}
use Rattle.repo_store.specs.declared.fault.StoreFault.{StoreFault}
use Rattle.repo_store.specs.declared.fault.StoreFault.TheVariants.{Log}
use Rattle.repo_store.specs.declared.store.RepoStore.{RepoStore}
use Rattle.store_share.specs.declared.notes.RowNotes.{RowNotes}
use Rattle.store_share.specs.Shown.{Shows}
use Rattle.store_share.specs.declared.book.MasterBook.{MasterBook}
use Rattle.store_share.specs.declared.show.Stuck.{Stuck}
use Rattle.store_share.specs.declared.show.Stuck.TheVariants.{Device, Cell}
use Rattle.store_share.specs.Book.{store_of, head_of, is_stuck, revs_of}

-- a staged revision is written and shown; or the device fails, and nothing more is shown; or the cell refuses it, and the entry stands
abbrev pub Carries : {D : Type 0} {G : Ghosts D} → Entry → RepoStore D G → RepoStore D G → RowNotes → Result (Unit {0}) Stuck → Type 0
Carries entry old new notes (Ok done) = IsTaken entry old new × Shows (length (revisions_of new)) notes (repository_of new)
Carries entry old new notes (Err (Device e)) = IsBroken entry old new e × Shows (length (revisions_of old)) notes (repository_of new)
Carries entry old new notes (Err Cell) = IsTaken entry old new × Shows (length (revisions_of old)) notes (repository_of new)

-- an entry of properties
abbrev pub IsOfProps : Entry → Type 0
IsOfProps (Revised n set props) = ⊥
IsOfProps (Mapped n props) = Unit {0}

-- over that store it is installed, and nothing more is to be shown; or the device fails, and the head stays
abbrev pub Puts : {L D : Type 0} {r : _} {g : _} → Entry → RepoStore D g → ℕ → MasterBook L D r g → Result (Unit {0}) StoreFault → Type 0
Puts entry store head new (Ok done) = IsTaken entry store (store_of new) × (is_stuck new ≡ false) × (head_of new + 1 ≡ length (revisions_of (store_of new)))
Puts entry store head new (Err e) = IsBroken entry store (store_of new) e × (is_stuck new ≡ false) × (head_of new ≡ head)

-- the entry is written and taken in, and what it makes is shown
pub record IsAccepted {L D : Type 0} {r : _} {g : _} (entry : Entry) (due : Option RepoFault) (old new : MasterBook L D r g) : Type 0 where
  pub worked : is_stuck old ≡ false
  pub works : is_stuck new ≡ false
  pub taken : due ≡ None
  pub store : IsTaken entry (store_of old) (store_of new)
  pub head : head_of new + 1 ≡ length (revisions_of (store_of new))

-- nothing changes: a cell refused its box before (32), or it is what the store refuses
pub record IsLeft {L D : Type 0} {r : _} {g : _} (entry : Entry) (due : Option RepoFault) (old new : MasterBook L D r g) (e : StoreFault) : Type 0 where
  pub why : ((is_stuck old ≡ true) × (e ≡ Log Failed)) ⊎ ((is_stuck old ≡ false) × Refuses (store_of old) entry due e)
  pub stays : Stays (store_of old) (store_of new)
  pub stuck : is_stuck new ≡ is_stuck old
  pub head : head_of new ≡ head_of old

-- the device fails (31)
pub record IsBrokenOff {L D : Type 0} {r : _} {g : _} (entry : Entry) (due : Option RepoFault) (old new : MasterBook L D r g) (e : StoreFault) : Type 0 where
  pub worked : is_stuck old ≡ false
  pub taken : due ≡ None
  pub store : IsBroken entry (store_of old) (store_of new) e
  pub stuck : is_stuck new ≡ false
  pub head : head_of new ≡ head_of old

-- the cell refuses its box (32): the entry stands and isn't shown, and each later change is refused
pub record IsHidden {L D : Type 0} {r : _} {g : _} (entry : Entry) (due : Option RepoFault) (old new : MasterBook L D r g) (e : StoreFault) : Type 0 where
  pub fault : e ≡ Log Failed
  pub worked : is_stuck old ≡ false
  pub taken : due ≡ None
  pub store : IsTaken entry (store_of old) (store_of new)
  pub stuck : is_stuck new ≡ true
  pub head : head_of new ≡ head_of old

-- a commit of a book, which is this entry where the repository refuses this of it
abbrev pub Commits : {L D : Type 0} {r : _} {g : _} → Entry → Option RepoFault → MasterBook L D r g → MasterBook L D r g → Result ℕ StoreFault → Type 0
Commits entry due old new (Ok n) = IsAccepted entry due old new × (n ≡ head_of new)
Commits entry due old new (Err e) = IsLeft entry due old new e ⊎ IsBrokenOff entry due old new e ⊎ IsHidden entry due old new e

-- a commit from that book
pub record IsCommitFrom {L D : Type 0} {r : _} {g : Ghosts D} (old : MasterBook L D r g) (entry : Entry) (due : Option RepoFault) (result : Result ℕ StoreFault) : Type 0 where
  pub new : MasterBook L D r g
  pub commits : Commits entry due old new result

-- a change of properties, which shows nothing
abbrev pub Edits : {L D : Type 0} {r : _} {g : _} {T : Type 0} → Entry → Option RepoFault → MasterBook L D r g → MasterBook L D r g → Result T StoreFault → Type 0
Edits entry due old new (Ok done) = IsAccepted entry due old new
Edits entry due old new (Err e) = IsLeft entry due old new e ⊎ IsBrokenOff entry due old new e

-- a commit of that set against that base, with these properties
abbrev pub CommitsSet : {L D : Type 0} {r : _} {g : _} → ℕ → List Change → PropMap → MasterBook L D r g → MasterBook L D r g → Result ℕ StoreFault → Type 0
CommitsSet base set props old new result =
    let entry = next_entry (revs_of old) set props in Commits entry (commit_fault (revs_of old) base entry) old new result

-- such a commit from that book
abbrev pub IsSetFrom : {L D : Type 0} {r : _} {g : Ghosts D} → ℕ → List Change → PropMap → MasterBook L D r g → Result ℕ StoreFault → Type 0
IsSetFrom base set props old result =
    let entry = next_entry (revs_of old) set props in IsCommitFrom old entry (commit_fault (revs_of old) base entry) result

-- a change of one property
abbrev pub EditsProp : {L D : Type 0} {r : _} {g : _} {T : Type 0} → ℕ → Name → Option (List ℕ) → Expected → MasterBook L D r g → MasterBook L D r g → Result T StoreFault → Type 0
EditsProp number name value expected old new result =
    Edits (Mapped number (with_value (props_at (revs_of old) number) name value)) (change_fault (revs_of old) number name value expected) old new result

-- a change by that entry
abbrev pub EditsEntry : {L D : Type 0} {r : _} {g : _} {T : Type 0} → Entry → MasterBook L D r g → MasterBook L D r g → Result T StoreFault → Type 0
EditsEntry entry old new result = Edits entry (by_repository (revs_of old) entry) old new result
