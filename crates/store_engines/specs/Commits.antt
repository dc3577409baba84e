-- The commit of a directory.
use Rattle.std.specs.Prelude.{◌≡◌, ◌<◌, ◌⊎◌, ℕ, Bool, true, List, [], ◌∷◌, ◌++◌, length, Option, Some, None, Result, Ok, Err, codes, if◌then◌else◌}
use Rattle.std.specs.Option.{option_map}
use Rattle.std.specs.FinMap as finite
use Rattle.std.specs.Fmt.{decimal}
use Rattle.std.specs.Io.KnownBytes.{Appends}
use Rattle.jiff_core.specs.declared.civil.datetime.DateTime.{DateTime}
use Rattle.node_base.specs.Path.{Path}
use Rattle.node_base.specs.PathText.{path_read}
use Rattle.node_base.specs.Props.{PropMap}
use Rattle.node_base.specs.declared.fault.PathFault.{PathFault}
use Rattle.node_base.specs.declared.node.Action.TheVariants.{Add}
use Rattle.node_base.specs.declared.node.NodeKind.TheVariants.{Dir}
use Rattle.node_base.specs.declared.refusal.Refusal.{Refusal}
use Rattle.node_base.specs.declared.refusal.Refusal.TheVariants as refusal
use Rattle.node_base.specs.declared.limits.TheConstants.{PROP_VALUE_BYTES}
use Rattle.dump_load.specs.declared.change.Change.{Change}
use Rattle.repo_core.specs.Dates.{dated}
use Rattle.repo_core.specs.Repository.{Repository, Revision}
use Rattle.repo_core.specs.Entries.{with_entry_in}
use Rattle.repo_core.specs.declared.entry.Entry.{Entry}
use Rattle.repo_core.specs.declared.entry.Entry.TheVariants.{Revised}
use Rattle.byte_streams.specs.Causes.{Rose}
use Rattle.byte_streams.specs.declared.output.Output.{Ghosts as OutputGhosts}
use Rattle.fleet_disk.specs.declared.disk.Disk.{Ghosts}
use Rattle.repo_store.specs.Words.{repository_of, revisions_of}
use Rattle.repo_store.specs.declared.store.RepoStore.{RepoStore}
use Rattle.store_engines.specs.Devices.{CantKeep}
use Rattle.store_engines.specs.Loads.{entry_fault, ServesOne}
use Rattle.store_engines.specs.Mirrors.{is_mirror, IsNoMirror}
use Rattle.store_engines.specs.Refusals.{path_refusal, repo_refusal}

-- what is said of a revision that was committed
abbrev pub committed_line : ℕ → List ℕ
committed_line n = codes "Committed revision " ++ (decimal n ++ codes ".\n")

-- the set that adds a directory without properties
abbrev pub directory_set : Path → List Change
directory_set path = record { path = path; action = Add; kind = Some Dir; source = None; props = Some finite.empty; text = None } ∷ []

-- the properties of a revision with that message
abbrev pub logged : List ℕ → PropMap
logged message = finite.insert finite.empty (codes "svn:log") message

-- the revision after the head that adds a directory, with that message and that date
abbrev pub directory_entry : List Revision → Path → List ℕ → DateTime → Entry
directory_entry x path message moment = Revised (length x) (directory_set path) (dated (logged message) (Some moment))

-- the same without a message
abbrev pub bare_entry : List Revision → Path → DateTime → Entry
bare_entry x path moment = Revised (length x) (directory_set path) (dated finite.empty (Some moment))

-- of what was read as a path: it is none, or the repository refuses the directory there
abbrev pub fault_there : List Revision → List ℕ → DateTime → Result Path PathFault → Option Refusal
fault_there x message moment (Err f) = Some (path_refusal f)
fault_there x message moment (Ok path) = option_map repo_refusal (entry_fault x (directory_entry x path message moment))

-- why a directory isn't committed: the repository is a mirror; or these bytes are no path; or what the repository refuses, the message past its limit at last
abbrev pub directory_fault : List Revision → List ℕ → List ℕ → DateTime → Option Refusal
directory_fault x bytes message moment = if is_mirror x then Some refusal.ReadOnly else fault_there x message moment (path_read bytes)

-- the directory is committed, where nothing is refused, and it is said
pub record IsCommitted (x : Repository) (bytes message : List ℕ) (moment : DateTime) (y : Repository) (before now : Option (List ℕ)) : Type 0 where
  pub path : Path
  pub read : path_read bytes ≡ Ok path
  pub taken : directory_fault x.revisions bytes message moment ≡ None
  pub made : y ≡ with_entry_in x (directory_entry x.revisions path message moment)
  pub written : Appends before now (committed_line (length x.revisions))

-- the directory isn't committed: the refusal is the one that is due; or memory runs out; or the store can't keep the entry (of a message past its limit the entry without it); in all of these nothing is done; or it is committed, and can't be said
pub data NotCommitted {D : Type 0} {G : Ghosts D} (x : Repository) (bytes message : List ℕ) (moment : DateTime) (store : RepoStore D G) (before now : Option (List ℕ)) (fails : Type 0) (e : Refusal) : Type 0 where
  commit_refused : directory_fault x.revisions bytes message moment ≡ Some e → repository_of store ≡ x → now ≡ before → NotCommitted x bytes message moment store before now fails e
  commit_stops : e ≡ refusal.OutOfMemory → repository_of store ≡ x → now ≡ before → NotCommitted x bytes message moment store before now fails e
  commit_not_kept : (path : Path) (entry : Entry) → path_read bytes ≡ Ok path → (entry ≡ directory_entry x.revisions path message moment) ⊎ ((PROP_VALUE_BYTES < length message) × (entry ≡ bare_entry x.revisions path moment)) → CantKeep store entry e → repository_of store ≡ x → now ≡ before → NotCommitted x bytes message moment store before now fails e
  commit_unsaid : (path : Path) → path_read bytes ≡ Ok path → directory_fault x.revisions bytes message moment ≡ None → repository_of store ≡ with_entry_in x (directory_entry x.revisions path message moment) → fails → e ≡ refusal.PeerFailed → NotCommitted x bytes message moment store before now fails e

-- memory ran out, or these bytes are no path
abbrev pub RefusesPath : List ℕ → Refusal → Type 0
RefusesPath bytes e = (e ≡ refusal.OutOfMemory) ⊎ ((f : PathFault) × (path_read bytes ≡ Err f) × (e ≡ path_refusal f))

-- why a directory with a message past its limit isn't committed: memory ran out; or the store can't keep its entry without the message; or what the repository refuses of it
abbrev pub RefusesMessage : {D : Type 0} {G : Ghosts D} → List Change → DateTime → RepoStore D G → RepoStore D G → Refusal → Type 0
RefusesMessage set moment old new e = (e ≡ refusal.OutOfMemory)
    ⊎ ((path : Path) → set ≡ directory_set path → CantKeep new (bare_entry (revisions_of old) path moment) e)
    ⊎ ((path : Path) (message : List ℕ) → set ≡ directory_set path → PROP_VALUE_BYTES < length message
    → option_map repo_refusal (entry_fault (revisions_of old) (directory_entry (revisions_of old) path message moment)) ≡ Some e)

-- the directory at the path that these bytes spell is committed to the store, and is said
abbrev pub CommitsDirectory : {D O : Type 0} {G : Ghosts D} → OutputGhosts O → List ℕ → List ℕ → DateTime → RepoStore D G → O → RepoStore D G → O → Type 0
CommitsDirectory W bytes message moment old before new now = IsCommitted (repository_of old) bytes message moment (repository_of new) (W.contents before) (W.contents now)

-- it isn't
abbrev pub RefusesDirectory : {D O : Type 0} {G : Ghosts D} → OutputGhosts O → List ℕ → List ℕ → DateTime → RepoStore D G → O → RepoStore D G → O → Refusal → Type 0
RefusesDirectory W bytes message moment old before new now e =
    NotCommitted (repository_of old) bytes message moment new (W.contents before) (W.contents now) (Rose (W.failures before) (W.failures now)) e

-- bytes that spell this path have P, where the store is no mirror's
abbrev pub IfSpelled : {D : Type 0} {G : Ghosts D} → RepoStore D G → Path → (List ℕ → Type 0) → Type 0
IfSpelled store path P = (bytes : List ℕ) → IsNoMirror store → path_read bytes ≡ Ok path → P bytes

-- what was done to the store's device is the commit of that directory
abbrev pub ServesDirectory : {D : Type 0} {G : Ghosts D} → Path → List ℕ → DateTime → RepoStore D G → RepoStore D G → Result (Unit {0}) Refusal → Type 0
ServesDirectory path message moment old new result = ServesOne (directory_entry (revisions_of old) path message moment) old new result
