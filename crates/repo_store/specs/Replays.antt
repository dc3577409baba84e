-- How a log's entries are taken in, one after the other.
use Rattle.std.specs.Prelude.{◌≡◌, ℕ, List, slice_get, Some, None, Result, IsErrOf}
use Rattle.node_base.specs.Props.{PropMap}
use Rattle.fleet_disk.specs.declared.disk.Disk.{Ghosts}
use Rattle.gate_log.specs.Device.{IsFailure}
use Rattle.gate_log.specs.Log.{disk_of}
use Rattle.gate_log.specs.declared.fault.LogFault.{LogFault}
use Rattle.gate_log.specs.declared.fault.LogFault.TheVariants.{Damaged}
use Rattle.gate_log.specs.declared.log.GateLog.{GateLog}
use Rattle.repo_core.specs.Repository.{Repository, fresh}
use Rattle.repo_core.specs.Entries.{with_entry_in}
use Rattle.repo_core.specs.Refusals.{by_repository}
use Rattle.repo_core.specs.declared.entry.Entry.{Entry}
use Rattle.repo_core.specs.declared.entry.Entry.TheVariants.{Mapped}
use Rattle.repo_store.specs.Journal.{IsBeginning, Spells, Takes}

-- a repository refuses nothing of the entry
abbrev pub Accepts : Repository → Entry → Type 0
Accepts r entry = by_repository r.revisions entry ≡ None

-- a repository is the one after this first entry
abbrev pub IsBegunBy : List ℕ → Repository → Type 0
IsBegunBy bytes r = (identity : List ℕ) × (props : PropMap) × IsBeginning bytes identity props × (r ≡ with_entry_in (fresh identity) (Mapped 0 props))

-- it is the one after the first of the entries
abbrev pub IsBegunIn : List (List ℕ) → Repository → Type 0
IsBegunIn entries r = (bytes : List ℕ) × (props : PropMap) × (slice_get entries 0 ≡ Some bytes) × IsBeginning bytes r.identity props × (r ≡ with_entry_in (fresh r.identity) (Mapped 0 props))

-- the first of the entries begins no repository
abbrev pub BeginsNone : List (List ℕ) → Type 0
BeginsNone entries = (bytes identity : List ℕ) (props : PropMap) → slice_get entries 0 ≡ Some bytes → IsBeginning bytes identity props → ⊥

-- bytes are an entry that the repository takes, and it becomes s
abbrev pub TakesIn : List ℕ → Repository → Repository → Type 0
TakesIn bytes r s = (e : Entry) × Spells bytes e × Takes r.revisions e × (s ≡ with_entry_in r e)

-- they are none that it takes
abbrev pub TakesNone : List ℕ → Repository → Type 0
TakesNone bytes r = (e : Entry) → Spells bytes e → Takes r.revisions e → ⊥

-- the entry of that number is one that the repository takes, and it becomes s
abbrev pub TakesAt : ℕ → List (List ℕ) → Repository → Repository → Type 0
TakesAt n entries r s = (bytes : List ℕ) × (e : Entry) × (slice_get entries n ≡ Some bytes) × Spells bytes e × Takes r.revisions e × (s ≡ with_entry_in r e)

-- it is none that it takes
abbrev pub BreaksAt : ℕ → List (List ℕ) → Repository → Type 0
BreaksAt n entries r = (bytes : List ℕ) (e : Entry) → slice_get entries n ≡ Some bytes → Spells bytes e → Takes r.revisions e → ⊥

-- an entry that is told as damaged has P
abbrev pub IfDamaged : {T : Type 0} → Result T LogFault → (ℕ → Type 0) → Type 0
IfDamaged result P = (entry : ℕ) → IsErrOf result (Damaged entry) → P entry

-- 31 comes only where the count of failures of the log's disk rose
abbrev pub IsLogFailure : {D T : Type 0} {G : Ghosts D} → GateLog D G → GateLog D G → Result T LogFault → Type 0
IsLogFailure {G} old new result = IsFailure G (disk_of old) (disk_of new) result
