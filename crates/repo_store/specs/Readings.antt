-- How entries are read.
use Rattle.std.specs.Prelude.{◌≡◌, ◌++◌, ℕ, true, List, [], ◌∷◌, map, Option, Some, None, Result, IsErrOf}
use Rattle.node_base.specs.Props.{PropMap}
use Rattle.dump_text.specs.Canon.{canon_revision}
use Rattle.dump_text.specs.Streams.{reading, Reads, behind_version, dump}
use Rattle.dump_text.specs.Written.{AreFormed, AreRecords, are_whole, read_revision}
use Rattle.dump_text.specs.declared.state.ReadState.{ReadState}
use Rattle.dump_text.specs.declared.record.NodeRecord.{NodeRecord}
use Rattle.dump_text.specs.declared.record.RevRecord.{RevRecord}
use Rattle.dump_text.specs.declared.record.DumpRecord.{DumpRecord}
use Rattle.dump_text.specs.declared.record.DumpRecord.TheVariants.{Identity, Revision, Node}
use Rattle.repo_store.specs.declared.read.ReadFault.{ReadFault}
use Rattle.repo_store.specs.declared.read.ReadFault.TheVariants.{Bad}

-- the records of a revision
abbrev pub records_of : RevRecord → List DumpRecord
records_of r = Revision r.number r.props ∷ map Node r.nodes.items

-- of one that may not have begun
abbrev pub so_far : Option RevRecord → List DumpRecord
so_far None = []
so_far (Some r) = records_of r

-- records are those so far and one more
abbrev pub IsJoined : Option RevRecord → DumpRecord → RevRecord → Type 0
IsJoined before next r = records_of r ≡ so_far before ++ next ∷ []

-- no revision goes on so: with one record more behind those so far
abbrev pub BreaksRevision : Option RevRecord → DumpRecord → Type 0
BreaksRevision before next = (rest : List DumpRecord) (n : ℕ) (props : PropMap) (nodes : List NodeRecord) → so_far before ++ next ∷ rest ≡ Revision n props ∷ map Node nodes → ⊥

-- records are those of no revision
abbrev pub AreNoRevision : List DumpRecord → Type 0
AreNoRevision rs = (n : ℕ) (props : PropMap) (nodes : List NodeRecord) → rs ≡ Revision n props ∷ map Node nodes → ⊥

-- records are those of a first entry
abbrev pub BeginAs : List DumpRecord → List ℕ → PropMap → Type 0
BeginAs rs identity props = rs ≡ Identity identity ∷ Revision 0 props ∷ []

-- they are those of none
abbrev pub AreNoBeginning : List DumpRecord → Type 0
AreNoBeginning rs = (identity : List ℕ) (props : PropMap) → BeginAs rs identity props → ⊥

-- bytes are refused as none that are looked for
abbrev pub IsBad : {T : Type 0} → Result T ReadFault → Type 0
IsBad result = IsErrOf result Bad

-- a reader that has read these records can't read the bytes
abbrev pub CantGoOn : List DumpRecord → ReadState → List ℕ → Type 0
CantGoOn before reader bytes = (rs : List DumpRecord) (r : ReadState) → reading (Reads before reader) bytes ≡ Reads rs r → ⊥

-- bytes behind the version block are read as these records
abbrev pub AreReadAs : List ℕ → List DumpRecord → Type 0
AreReadAs bytes rs = (r : ReadState) × (reading (Reads [] behind_version) bytes ≡ Reads rs r)

-- so are the bytes of a dump
abbrev pub IsDumpOf : List ℕ → List DumpRecord → Type 0
IsDumpOf bytes rs = (r : ReadState) × (dump bytes ≡ Reads rs r)

-- the canonical spelling of a revision is dump text of its records
abbrev pub IsReadable : RevRecord → Type 0
IsReadable r = AreFormed r.nodes.items → AreRecords (canon_revision r) (read_revision r)

-- the property lists of a revision are whole, and this is its canonical spelling
abbrev pub IsCanonical : RevRecord → List ℕ → Type 0
IsCanonical r bytes = (are_whole r.nodes.items ≡ true) × (canon_revision r ≡ bytes)

-- bytes are read as this revision, whose property lists are whole, and are its canonical spelling
pub record IsRevisionOf (bytes : List ℕ) (r : RevRecord) : Type 0 where
  pub whole : are_whole r.nodes.items ≡ true
  pub canonical : bytes ≡ canon_revision r
  pub read : AreReadAs bytes (records_of r)
  pub readable : AreFormed r.nodes.items → AreRecords bytes (read_revision r)
