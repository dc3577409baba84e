-- The repository that a journal's entries stand for.
use Rattle.std.specs.Prelude.{◌≡◌, ◌<◌, ◌≤◌, ◌+◌, ◌⊎◌, ℕ, List, [], ◌∷◌, ◌++◌, map, length, take, slice_get, Option, Some, None}
use Rattle.std.specs.List.{flat_map}
use Rattle.std.specs.Option.{option_map}
use Rattle.std.specs.FinMap as finite
use Rattle.node_base.specs.Props.{PropMap}
use Rattle.dump_text.specs.Canon.{canon_head, canon_entry, canon_node}
use Rattle.dump_text.specs.Grammar.{Dump}
use Rattle.dump_text.specs.Written.{AreRecords, read_node}
use Rattle.dump_text.specs.declared.record.DumpRecord.{DumpRecord}
use Rattle.dump_text.specs.declared.record.DumpRecord.TheVariants as told
use Rattle.dump_load.specs.declared.change.Change.{Change}
use Rattle.dump_load.specs.Changes.{IsSet}
use Rattle.dump_load.specs.Records.{record_of}
use Rattle.fleet_disk.specs.Image.{Image}
use Rattle.gate_log.specs.Standing.{Stands, StandsAlike, IsDamagedAt}
use Rattle.repo_core.specs.Repository.{Revision, Repository, fresh}
use Rattle.repo_core.specs.declared.entry.Entry.{Entry}
use Rattle.repo_core.specs.declared.entry.Entry.TheVariants.{Revised, Mapped}
use Rattle.repo_core.specs.Entries.{with_entry, with_entry_in}
use Rattle.repo_core.specs.Refusals.{by_repository}
use Rattle.repo_core.specs.Staging.{StagedEntry, IsNext}

-- the canonical spelling of an entry: a revision's record and its nodes, or the record alone
abbrev pub spelling : Entry → List ℕ
spelling (Revised n set props) = canon_entry n props ++ flat_map canon_node (map record_of set)
spelling (Mapped n props) = canon_entry n props

-- the records of dump text that it says; of a deletion the kind isn't told
abbrev pub records_in : Entry → List DumpRecord
records_in (Revised n set props) = told.Revision n props ∷ map read_node (map record_of set)
records_in (Mapped n props) = told.Revision n props ∷ []

-- these bytes are the entry: its canonical spelling, and dump text of its records
pub record Spells (bytes : List ℕ) (e : Entry) : Type 0 where
  pub canonical : bytes ≡ spelling e
  pub readable : AreRecords bytes (records_in e)

-- a revision's set is normal, and has 4,096 changes at most
abbrev pub HasSet : Entry → Type 0
HasSet (Revised n set props) = IsSet set
HasSet (Mapped n props) = Unit {0}

-- the revisions take the entry: it is the revision after the head, or properties of one that is there, and nothing is refused
pub record Takes (x : List Revision) (e : Entry) : Type 0 where
  pub next : IsNext x e
  pub set : HasSet e
  pub accepted : by_repository x e ≡ None

-- the bytes of a repository's first entry as it is made
abbrev pub beginning_of : List ℕ → List ℕ
beginning_of identity = canon_head (Some identity) ++ canon_entry 0 finite.empty

-- these bytes are a first entry: the head with the identity, and revision 0's record
pub record IsBeginning (bytes : List ℕ) (identity : List ℕ) (props : PropMap) : Type 0 where
  pub canonical : bytes ≡ canon_head (Some identity) ++ canon_entry 0 props
  pub readable : Dump bytes (told.Identity identity ∷ told.Revision 0 props ∷ [])

-- bytes that are no first entry
abbrev pub IsNoBeginning : List ℕ → Type 0
IsNoBeginning bytes = (identity : List ℕ) (props : PropMap) → IsBeginning bytes identity props → ⊥

-- the revisions after a first entry
abbrev pub begun : List ℕ → PropMap → List Revision
begun identity props = with_entry (fresh identity).revisions (Mapped 0 props)

-- from the revisions x on, each of the entries is taken, and leaves y in the end
abbrev pub Continues : List Revision → List (List ℕ) → List Revision → Type 0
Continues x [] y = y ≡ x
Continues x (bytes ∷ rest) y = (e : Entry) × Spells bytes e × Takes x e × Continues (with_entry x e) rest y

-- the repository that a journal's entries stand for
abbrev pub StandsFor : List (List ℕ) → List ℕ → List Revision → Type 0
StandsFor [] identity x = ⊥
StandsFor (first ∷ rest) identity x = (props : PropMap) × IsBeginning first identity props × Continues (begun identity props) rest x

-- from the repository r on, each of the entries is taken, and leaves s in the end
abbrev pub Leads : Repository → List (List ℕ) → Repository → Type 0
Leads r [] s = s ≡ r
Leads r (bytes ∷ rest) s = (e : Entry) × Spells bytes e × Takes r.revisions e × Leads (with_entry_in r e) rest s

-- a journal's entries tell a repository: its identity, its revisions, and the set of each
abbrev pub Tell : List (List ℕ) → Repository → Type 0
Tell [] r = ⊥
Tell (first ∷ rest) r = (props : PropMap) × IsBeginning first r.identity props × Leads (with_entry_in (fresh r.identity) (Mapped 0 props)) rest r

-- an image keeps a repository: entries stand in it that tell it
abbrev pub Keeps : Repository → Image → Type 0
Keeps r image = ∥ ((entries : List (List ℕ)) × Stands image entries × Tell entries r) ∥₁

-- an image reopens to a repository: entries stand in it that stand for that repository
abbrev pub ReopensTo : List ℕ → List Revision → Image → Type 0
ReopensTo identity x image = ∥ ((entries : List (List ℕ)) × Stands image entries × StandsFor entries identity x) ∥₁

-- an image keeps the repository before an entry, or the one after it
abbrev pub IsBeforeOrAfter : Repository → Entry → Image → Type 0
IsBeforeOrAfter r e image = Keeps r image ⊎ Keeps (with_entry_in r e) image

-- an image keeps a repository; or, while it is in doubt whether one entry more is there, that or the repository after the entry
abbrev pub KeepsOr : Repository → Option Entry → Image → Type 0
KeepsOr r None image = Keeps r image
KeepsOr r (Some e) image = ∥ IsBeforeOrAfter r e image ∥₁

-- the entry that is in doubt
abbrev pub doubt_in : Option StagedEntry → Option Entry
doubt_in = option_map (λ (s : StagedEntry). s.entry)

-- an image has the entries that the first has, and keeps whatever the first keeps
abbrev pub KeepsAlike : Image → Image → Type 0
KeepsAlike first image = StandsAlike first image × ((r : Repository) → Keeps r first → Keeps r image)

-- the canonical text of a revision: the set that made its tree, and the properties that it has now
abbrev pub IsExport : Repository → ℕ → List ℕ → Type 0
IsExport r n bytes = (y : Revision) × (set : List Change) × (slice_get r.revisions n ≡ Some y) × (slice_get r.sets n ≡ Some set) × (bytes ≡ spelling (Revised n set y.props))

-- of entries this one is the first that is damaged: those before it stand for a repository, and with it they stand for none
pub record IsFirstBad (entry : ℕ) (entries : List (List ℕ)) : Type 0 where
  pub there : entry < length entries
  pub before : 0 < entry → ∥ ((identity : List ℕ) × (x : List Revision) × StandsFor (take entry entries) identity x) ∥₁
  pub breaks : (identity : List ℕ) (x : List Revision) → StandsFor (take (entry + 1) entries) identity x → ⊥

-- of an image this entry is the first that is damaged: it breaks the layout of the log, or else it is no entry
abbrev pub IsDamaged : ℕ → Image → Type 0
IsDamaged entry image = IsDamagedAt entry image ⊎ ((entries : List (List ℕ)) × Stands image entries × IsFirstBad entry entries)
