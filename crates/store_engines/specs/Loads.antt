-- What a load makes of a repository, revision by revision.
use Rattle.std.specs.Prelude.{◌≡◌, ℕ, ◌⊎◌, Bool, true, false, List, [], ◌∷◌, ◌++◌, Option, Some, None, Result, IfErr, IfSome, IsErr, OnErr, OnOk, codes}
use Rattle.std.specs.List.{filter, flat_map}
use Rattle.std.specs.Fmt.{decimal}
use Rattle.std.specs.Io.KnownBytes.{Appends}
use Rattle.node_base.specs.Props.{PropMap}
use Rattle.node_base.specs.Tree.{PathMap}
use Rattle.node_base.specs.declared.refusal.Refusal.{Refusal}
use Rattle.node_base.specs.declared.refusal.Refusal.TheVariants as refusal
use Rattle.dump_text.specs.declared.record.DumpRecord.{DumpRecord}
use Rattle.dump_text.specs.declared.record.DumpRecord.TheVariants.{Revision as Begins}
use Rattle.dump_text.specs.declared.fault.DumpFault.{DumpFault}
use Rattle.dump_text.specs.declared.state.ReadState.{ReadState}
use Rattle.dump_text.specs.Streams.{Reads, Refuses, dump_by, records_of, is_between}
use Rattle.dump_load.specs.declared.change.Change.{Change}
use Rattle.repo_core.specs.Repository.{Repository, Revision, trees_of, head_of}
use Rattle.repo_core.specs.Entries.{with_entry, with_entry_in}
use Rattle.repo_core.specs.declared.entry.Entry.{Entry}
use Rattle.repo_core.specs.declared.entry.Entry.TheVariants.{Revised, Mapped}
use Rattle.repo_core.specs.Refusals.{by_repository, commit_fault, IsDue}
use Rattle.repo_core.specs.declared.fault.RepoFault.{RepoFault}
use Rattle.fleet_disk.specs.Image.{Image}
use Rattle.fleet_disk.specs.declared.disk.Disk.{Ghosts}
use Rattle.repo_store.specs.Journal.{Keeps}
use Rattle.repo_store.specs.Words.{disk_of, repository_of, revisions_of}
use Rattle.repo_store.specs.declared.store.RepoStore.{RepoStore}
use Rattle.dump_text.specs.Faults.{dump_refusal}
use Rattle.fleet_engines.specs.Revisions.{Rev, Makes, IsUnfit, is_zero, is_past_zero}
use Rattle.fleet_engines.specs.Grouping.{record_of_node, records_of_rev, is_no_identity}
use Rattle.whole_texts.specs.declared.read_node.ReadNode.{ReadNode}
use Rattle.store_engines.specs.Devices.{CantKeep, IsSafe, Serves}
use Rattle.store_engines.specs.Refusals.{repo_refusal}

-- what is said of a revision that was loaded
abbrev pub loaded_line : ℕ → List ℕ
loaded_line n = codes "Loaded revision " ++ (decimal n ++ codes ".\n")

-- over a repository's revisions a whole revision is this entry, and this is said of it: revision 0 without others gives its properties, and another one is the next, with the tree that its set makes
pub data IsLoaded (x : List Revision) (r : Rev) (e : Entry) (said : List ℕ) : Type 0 where
  revision_0 : is_zero (trees_of x) r ≡ true → r.nodes ≡ [] → e ≡ Mapped 0 r.props → said ≡ [] → IsLoaded x r e said
  a_revision : (set : List Change) (tree : PathMap) → is_zero (trees_of x) r ≡ false → Makes (trees_of x) r set tree → e ≡ Revised r.number set r.props → said ≡ loaded_line r.number → IsLoaded x r e said

-- what the repository refuses of an entry as it is committed
abbrev pub entry_fault : List Revision → Entry → Option RepoFault
entry_fault x (Revised n set props) = commit_fault x (head_of x) (Revised n set props)
entry_fault x (Mapped n props) = by_repository x (Mapped n props)

-- a whole revision is loaded: the repository takes its entry, and it is said
abbrev pub LoadsOne : Repository → Rev → Repository → Option (List ℕ) → Option (List ℕ) → Type 0
LoadsOne x r y start now = (entry : Entry) × (line : List ℕ) × IsLoaded x.revisions r entry line × (entry_fault x.revisions entry ≡ None) × (y ≡ with_entry_in x entry) × Appends start now line

-- whole revisions one after another, each of which the repository takes, and all that is said of them
abbrev pub Loads : Repository → List Rev → Repository → List ℕ → Type 0
Loads x [] y said = (y ≡ x) × (said ≡ [])
Loads x (r ∷ rs) y said = (e : Entry) × (line rest : List ℕ) × IsLoaded x.revisions r e line × (entry_fault x.revisions e ≡ None) × Loads (with_entry_in x e) rs y rest × (said ≡ line ++ rest)

-- a whole revision is refused: it makes no tree, or the repository refuses its entry
pub data CantLoad (x : List Revision) (r : Rev) (e : Refusal) : Type 0 where
  unfit : is_zero (trees_of x) r ≡ false → IsUnfit (trees_of x) r e → CantLoad x r e
  entry_refused : (entry : Entry) (said : List ℕ) (f : RepoFault) → IsLoaded x r entry said → IsDue f (entry_fault x entry) → e ≡ repo_refusal f → CantLoad x r e

-- a whole revision isn't loaded: it is refused, or memory runs out, or the store can't keep its entry, and nothing is done; or it is loaded and can't be said
pub data NotLoaded {D : Type 0} {G : Ghosts D} (x : Repository) (r : Rev) (store : RepoStore D G) (before now : Option (List ℕ)) (fails : Type 0) (e : Refusal) : Type 0 where
  load_refused : CantLoad x.revisions r e → repository_of store ≡ x → now ≡ before → NotLoaded x r store before now fails e
  load_stops : e ≡ refusal.OutOfMemory → repository_of store ≡ x → now ≡ before → NotLoaded x r store before now fails e
  load_not_kept : (entry : Entry) (line : List ℕ) → IsLoaded x.revisions r entry line → CantKeep store entry e → repository_of store ≡ x → now ≡ before → NotLoaded x r store before now fails e
  load_unsaid : (entry : Entry) (line : List ℕ) → IsLoaded x.revisions r entry line → entry_fault x.revisions entry ≡ None → repository_of store ≡ with_entry_in x entry → fails → e ≡ refusal.PeerFailed → NotLoaded x r store before now fails e

-- the records of a revision that is still read
abbrev pub read_of : Option Rev → List DumpRecord
read_of None = []
read_of (Some r) = records_of_rev r

-- of revision 0 no node is read
abbrev pub IsBare : Rev → Type 0
IsBare r = r.number ≡ 0 → r.nodes ≡ []

-- the records are whole revisions, which are loaded and said, and the revision that is still read; from the first on there is one
pub record Stands (x : Repository) (rs : List DumpRecord) (y : Repository) (last : Option Rev) (start now : Option (List ℕ)) : Type 0 where
  pub whole : List Rev
  pub said : List ℕ
  pub records : filter is_no_identity rs ≡ flat_map records_of_rev whole ++ read_of last
  pub begun : last ≡ None → whole ≡ []
  pub bare : IfSome last IsBare
  pub loads : Loads x whole y said
  pub written : Appends start now said

-- the records are whole revisions, which are loaded and said
pub record Gathered (x : Repository) (rs : List DumpRecord) (y : Repository) (start now : Option (List ℕ)) : Type 0 where
  pub whole : List Rev
  pub said : List ℕ
  pub records : filter is_no_identity rs ≡ flat_map records_of_rev whole
  pub loads : Loads x whole y said
  pub written : Appends start now said

-- the revision that is read, and is whole now, is refused; or memory runs out before it; or the store can't keep its entry; or it is loaded and can't be said
pub data CantClose {D : Type 0} {G : Ghosts D} (x : Repository) (rs : List DumpRecord) (store : RepoStore D G) (start now : Option (List ℕ)) (fails : Type 0) (e : Refusal) : Type 0 where
  close_refused : (r : Rev) → Stands x rs (repository_of store) (Some r) start now → CantLoad (revisions_of store) r e → CantClose x rs store start now fails e
  close_stops : (last : Option Rev) → Stands x rs (repository_of store) last start now → e ≡ refusal.OutOfMemory → CantClose x rs store start now fails e
  close_not_kept : (r : Rev) (entry : Entry) (line : List ℕ) → Stands x rs (repository_of store) (Some r) start now → IsLoaded (revisions_of store) r entry line → CantKeep store entry e → CantClose x rs store start now fails e
  close_unsaid : (z : Repository) (r : Rev) (entry : Entry) (line : List ℕ) (before : Option (List ℕ)) → Stands x rs z (Some r) start before → IsLoaded z.revisions r entry line → entry_fault z.revisions entry ≡ None → repository_of store ≡ with_entry_in z entry → fails → e ≡ refusal.PeerFailed → CantClose x rs store start now fails e

-- the next record isn't taken: the revision before it can't be closed; or it is a node, and no revision other than 0 is read; or memory runs out
pub data CantTake {D : Type 0} {G : Ghosts D} (x : Repository) (rs : List DumpRecord) (next : DumpRecord) (store : RepoStore D G) (start now : Option (List ℕ)) (fails : Type 0) (e : Refusal) : Type 0 where
  not_closed : (n : ℕ) (props : PropMap) → next ≡ Begins n props → CantClose x rs store start now fails e → CantTake x rs next store start now fails e
  no_revision : (node : ReadNode) (last : Option Rev) → next ≡ record_of_node node → Stands x rs (repository_of store) last start now → is_past_zero last ≡ false → e ≡ refusal.WrongNumber → CantTake x rs next store start now fails e
  take_stops : (last : Option Rev) → Stands x rs (repository_of store) last start now → e ≡ refusal.OutOfMemory → CantTake x rs next store start now fails e

-- some records more lead from what stood so to what stands so
abbrev pub Moves : Repository → Option Rev → Option (List ℕ) → List DumpRecord → Repository → Option Rev → Option (List ℕ) → Type 0
Moves y last before new z later now = (x : Repository) (rs : List DumpRecord) (start : Option (List ℕ)) → Stands x rs y last start before → Stands x (rs ++ new) z later start now

-- a dump, in which texts may be given as deltas or may not, is loaded whole: it is whole revisions, each of them is loaded, and is said
pub record Loaded (deltas : Bool) (x : Repository) (bytes : List ℕ) (y : Repository) (start now : Option (List ℕ)) : Type 0 where
  pub records : List DumpRecord
  pub reader : ReadState
  pub read : dump_by deltas bytes ≡ Reads records reader
  pub ended : is_between reader ≡ true
  pub gathered : Gathered x records y start now

-- a load is refused, and what was loaded before stays: at the next record; or by the byte behind some records; or as the stream ends, in a record or behind the last one; or memory or a stream fails
pub data Refused {D : Type 0} {G : Ghosts D} (deltas : Bool) (x : Repository) (bytes : List ℕ) (store : RepoStore D G) (start now : Option (List ℕ)) (fails : Type 0) (e : Refusal) : Type 0 where
  at_record : (rs : List DumpRecord) (next : DumpRecord) (more : List DumpRecord) → records_of (dump_by deltas bytes) ≡ rs ++ next ∷ more → CantTake x rs next store start now fails e → Refused deltas x bytes store start now fails e
  at_byte : (rs : List DumpRecord) (f : DumpFault) (last : Option Rev) → dump_by deltas bytes ≡ Refuses rs f → Stands x rs (repository_of store) last start now → e ≡ dump_refusal f → Refused deltas x bytes store start now fails e
  cut_short : (rs : List DumpRecord) (reader : ReadState) (last : Option Rev) → dump_by deltas bytes ≡ Reads rs reader → is_between reader ≡ false → Stands x rs (repository_of store) last start now → e ≡ refusal.Truncated → Refused deltas x bytes store start now fails e
  at_end : (rs : List DumpRecord) (reader : ReadState) → dump_by deltas bytes ≡ Reads rs reader → is_between reader ≡ true → CantClose x rs store start now fails e → Refused deltas x bytes store start now fails e
  stopped : (rs more : List DumpRecord) (last : Option Rev) → records_of (dump_by deltas bytes) ≡ rs ++ more → Stands x rs (repository_of store) last start now → (e ≡ refusal.OutOfMemory) ⊎ (e ≡ refusal.PeerFailed) → Refused deltas x bytes store start now fails e

-- over a repository's revisions a whole revision is this entry: revision 0 without others gives its properties, and another one is the next, with the set that it makes
pub data IsEntryOf (x : List Revision) (r : Rev) (e : Entry) : Type 0 where
  of_zero : is_zero (trees_of x) r ≡ true → e ≡ Mapped 0 r.props → IsEntryOf x r e
  of_next : (set : List Change) (tree : PathMap) → is_zero (trees_of x) r ≡ false → Makes (trees_of x) r set tree → e ≡ Revised r.number set r.props → IsEntryOf x r e

-- entries, one after another, are those of these whole revisions
abbrev pub AreEntriesOf : List Revision → List Rev → List Entry → Type 0
AreEntriesOf x [] es = es ≡ []
AreEntriesOf x (r ∷ rs) es = (e : Entry) × (rest : List Entry) × (es ≡ e ∷ rest) × IsEntryOf x r e × AreEntriesOf (with_entry x e) rs rest

-- what a call that had one entry to commit did to a store and its device: the entry was taken or begun, or neither, and it is refused
pub record ServesOne {D : Type 0} {G : Ghosts D} (entry : Entry) (old new : RepoStore D G) (result : Result (Unit {0}) Refusal) : Type 0 where
  pub serves : Serves old new result
  pub one : (serves.taken ++ serves.begun ≡ entry ∷ []) ⊎ (IsErr result × (serves.taken ++ serves.begun ≡ []))

-- an entry is committed, and stands; or nothing is done: memory ran out, or the store can't keep it, or it is refused for what is due
pub record Commits {D : Type 0} {G : Ghosts D} (entry : Entry) (old new : RepoStore D G) (result : Result (Unit {0}) Refusal) : Type 0 where
  pub ok : OnOk result (repository_of new ≡ with_entry_in (repository_of old) entry)
  pub taken : OnOk result (entry_fault (revisions_of old) entry ≡ None)
  pub stands : OnOk result (G.honest (disk_of new) → (image : Image) → G.may_leave (disk_of new) image → Keeps (repository_of new) image)
  pub same : OnErr result (repository_of new ≡ repository_of old)
  pub refused : IfErr result (λ e. (e ≡ refusal.OutOfMemory) ⊎ CantKeep new entry e ⊎ ((f : RepoFault) × IsDue f (entry_fault (revisions_of old) entry) × (e ≡ repo_refusal f)))
  pub no_peer : IfErr result (λ e. e ≡ refusal.PeerFailed → ⊥)
  pub device : IsSafe old → ServesOne entry old new result

-- what a call that had these records ahead did to a store and its device: the entries that were taken, and then the one that was begun, are those of the first whole revisions of them; and where it is Ok, of all but what is left
pub record ServesRecords {D : Type 0} {G : Ghosts D} (ahead : List DumpRecord) (old new : RepoStore D G) (result : Result (Unit {0}) Refusal) (left : List DumpRecord) : Type 0 where
  pub serves : Serves old new result
  pub whole : List Rev
  pub more : List DumpRecord
  pub records : ahead ≡ flat_map records_of_rev whole ++ more
  pub entries : AreEntriesOf (revisions_of old) whole (serves.taken ++ serves.begun)
  pub all : OnOk result (more ≡ left)
