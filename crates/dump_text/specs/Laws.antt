-- Laws of dumps. Where one says `deltas`, texts may or may not be given as deltas.
use Rattle.std.specs.Prelude.{◌≡◌, ℕ, ◌≤◌, Bool, true, false, List, [], ◌∷◌, ◌++◌, Option, IfSome}
use Rattle.node_base.specs.Props.{PropMap, IsProps}
use Rattle.node_base.specs.declared.limits.TheConstants.{REVISION}
use Rattle.dump_text.specs.declared.form.Stage.{Stage}
use Rattle.dump_text.specs.declared.form.Stage.TheVariants.{First, Inside}
use Rattle.dump_text.specs.declared.record.DumpRecord.TheVariants.{Revision}
use Rattle.dump_text.specs.declared.record.RevRecord.{RevRecord}
use Rattle.dump_text.specs.Canon.{canon_entry, canon_revision}
use Rattle.dump_text.specs.Written.{AreRecords, IsRevision, AreRevisions, IsIdentity, read_revision, canon_dump, read_dump}
use Rattle.dump_text.specs.declared.record.DumpRecord.{DumpRecord}
use Rattle.dump_text.specs.declared.fault.DumpFault.{DumpFault}
use Rattle.dump_text.specs.declared.state.Place.TheVariants as at
use Rattle.dump_text.specs.Streams.{Stream, Reads, Refuses, reading, dump_by, dump, begin, behind_version, is_between}
use Rattle.dump_text.specs.declared.state.ReadState.{ReadState}
use Rattle.dump_text.specs.Grammar.{DumpOf, DumpBy, Dump, stage_behind, version_line}

-- it doesn't matter how the bytes are cut
abbrev pub PiecesJoin : Type 0
PiecesJoin = (s : Stream) (a b : List ℕ) → reading s (a ++ b) ≡ reading (reading s a) b

-- a refusal stays, whatever follows
abbrev pub RefusalsStay : Type 0
RefusalsStay = (deltas : Bool) (bytes more : List ℕ) (rs : List DumpRecord) (f : DumpFault) → dump_by deltas bytes ≡ Refuses rs f → dump_by deltas (bytes ++ more) ≡ Refuses rs f

-- a dump of the grammar is read as its records, and the reader then stands between two records
abbrev pub DumpsAreReadBy : Bool → Type 0
DumpsAreReadBy deltas = (version : ℕ) (bytes : List ℕ) (rs : List DumpRecord) → DumpOf deltas version bytes rs → dump_by deltas bytes ≡ Reads rs (begin deltas version at.Between (stage_behind First rs))

-- so is one without a text that is given as a delta, by a reader that takes none
abbrev pub DumpsAreRead : Type 0
DumpsAreRead = DumpsAreReadBy false

-- the version block of format 2 leaves a reader where one begins that is behind it
abbrev pub VersionIsRead : Type 0
VersionIsRead = (bytes : List ℕ) → dump (version_line ++ 10 ∷ 10 ∷ bytes) ≡ reading (Reads [] behind_version) bytes

-- what is read to an end between two records is a dump of the grammar, of the format that its first line names
abbrev pub ReadsAreDumps : Type 0
ReadsAreDumps = (deltas : Bool) (bytes : List ℕ) (rs : List DumpRecord) (last : ReadState) → dump_by deltas bytes ≡ Reads rs last → is_between last ≡ true → DumpOf deltas last.version bytes rs

-- the byte that is refused: what stands before it was read
pub record FirstFault (deltas : Bool) (bytes : List ℕ) (rs : List DumpRecord) (f : DumpFault) : Type 0 where
  pub front : List ℕ
  pub byte : ℕ
  pub more : List ℕ
  pub whole : bytes ≡ front ++ byte ∷ more
  pub before : List DumpRecord
  pub state : ReadState
  pub reads : dump_by deltas front ≡ Reads before state
  pub refuses : dump_by deltas (front ++ byte ∷ []) ≡ Refuses rs f

-- a refusal comes at a byte, which is the first that is refused
abbrev pub RefusalsHaveAByte : Type 0
RefusalsHaveAByte = (deltas : Bool) (bytes : List ℕ) (rs : List DumpRecord) (f : DumpFault) → dump_by deltas bytes ≡ Refuses rs f → FirstFault deltas bytes rs f

-- what is refused is no front of a dump
abbrev pub RefusedIsNoFront : Type 0
RefusedIsNoFront = (deltas : Bool) (bytes more : List ℕ) (rs others : List DumpRecord) (f : DumpFault) → dump_by deltas bytes ≡ Refuses rs f → DumpBy deltas (bytes ++ more) others → ⊥

-- one list of bytes is a dump of at most one list of records
abbrev pub OneReading : Type 0
OneReading = (deltas : Bool) (bytes : List ℕ) (rs others : List DumpRecord) → DumpBy deltas bytes rs → DumpBy deltas bytes others → rs ≡ others

-- what is written of a revision's number and properties is read again as that record, whatever stands before it and follows it
abbrev pub EntriesAreReadAgain : Type 0
EntriesAreReadAgain = (rs : List DumpRecord) (version : ℕ) (stage : Stage) (n : ℕ) (props : PropMap) (more : List ℕ) → n ≤ REVISION → IsProps props → reading (Reads rs (begin false version at.Between stage)) (canon_entry n props ++ more) ≡ reading (Reads (rs ++ Revision n props ∷ []) (begin false version at.Between Inside)) more

-- so is what is written of a whole revision; but of a deletion the kind isn't written
abbrev pub RevisionsAreReadAgain : Type 0
RevisionsAreReadAgain = (rs : List DumpRecord) (version : ℕ) (stage : Stage) (r : RevRecord) (more : List ℕ) → IsRevision r → reading (Reads rs (begin false version at.Between stage)) (canon_revision r ++ more) ≡ reading (Reads (rs ++ read_revision r) (begin false version at.Between Inside)) more

-- a head and revisions that are written are a dump of the grammar, and are read as their records
abbrev pub WrittenIsRead : Type 0
WrittenIsRead = (id : Option (List ℕ)) (revisions : List RevRecord) → IfSome id IsIdentity → AreRevisions revisions → Dump (canon_dump id revisions) (read_dump id revisions) × (dump (canon_dump id revisions) ≡ Reads (read_dump id revisions) (begin false 2 at.Between (stage_behind First (read_dump id revisions))))

-- records behind a dump are a dump
abbrev pub DumpsGoOn : Type 0
DumpsGoOn = (bytes more : List ℕ) (rs others : List DumpRecord) → Dump bytes rs → AreRecords more others → Dump (bytes ++ more) (rs ++ others)
