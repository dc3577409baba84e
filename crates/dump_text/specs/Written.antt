-- Which records may be written, and what they are read as.
use Rattle.std.specs.Prelude.{◌≡◌, ℕ, ◌≤◌, ◌<◌, ◌&&◌, ◌||◌, not, Bool, true, false, List, [], ◌∷◌, ◌++◌, All, length, map, Option, Some, None, is_some, is_none, IfSome}
use Rattle.std.specs.List.{flat_map, list_all}
use Rattle.node_base.specs.Props.{PropMap, IsProps}
use Rattle.node_base.specs.PathText.{is_path}
use Rattle.node_base.specs.declared.node.Source.{Source}
use Rattle.node_base.specs.declared.limits.TheConstants.{REVISION, TEXT_BYTES}
use Rattle.dump_text.specs.Forms.{is_making, is_deletion}
use Rattle.dump_text.specs.Canon.{told_kind, canon_head, canon_revision}
use Rattle.dump_text.specs.Grammar.{IsRecords}
use Rattle.dump_text.specs.declared.form.Stage.{Stage}
use Rattle.dump_text.specs.declared.record.PropPart.{PropPart}
use Rattle.dump_text.specs.declared.record.PropPart.TheVariants.{Whole, Delta}
use Rattle.dump_text.specs.declared.record.NodeRecord.{NodeRecord}
use Rattle.dump_text.specs.declared.record.RevRecord.{RevRecord}
use Rattle.dump_text.specs.declared.record.DumpRecord.{DumpRecord}
use Rattle.dump_text.specs.declared.record.DumpRecord.TheVariants.{Identity, Revision, Node}

-- a source only where a node is made, and no content at a deletion
abbrev pub has_node_form : NodeRecord → Bool
has_node_form r = (is_none r.source || is_making (Some r.action)) && not (is_deletion (Some r.action) && (is_some r.props || is_some r.text))

abbrev pub map_of : PropPart → PropMap
map_of (Whole props) = props
map_of (Delta d) = d.sets

-- what a record gives of properties is no delta
abbrev pub is_whole_part : Option PropPart → Bool
is_whole_part None = true
is_whole_part (Some (Whole props)) = true
is_whole_part (Some (Delta d)) = false

abbrev pub are_whole : List NodeRecord → Bool
are_whole = list_all (λ r. is_whole_part r.props)

-- what the types don't say of a node: its form, properties that are whole, and a text of a mebibyte at most
pub record IsFormed (r : NodeRecord) : Type 0 where
  pub form : has_node_form r ≡ true
  pub whole : is_whole_part r.props ≡ true
  pub text : IfSome r.text (λ t. length t ≤ TEXT_BYTES)

abbrev pub IsKeptSource : Option Source → Type 0
IsKeptSource source = IfSome source (λ s. (is_path s.path ≡ true) × (s.revision ≤ REVISION))

abbrev pub IsKeptPart : Option PropPart → Type 0
IsKeptPart props = IfSome props (λ part. IsProps (map_of part))

-- what they say: its paths, its source's revision and its properties are within the limits
pub record IsKept (r : NodeRecord) : Type 0 where
  pub path : is_path r.path ≡ true
  pub source : IsKeptSource r.source
  pub props : IsKeptPart r.props

abbrev pub AreFormed : List NodeRecord → Type 0
AreFormed [] = Unit {0}
AreFormed (r ∷ rs) = IsFormed r × AreFormed rs

abbrev pub AreKept : List NodeRecord → Type 0
AreKept [] = Unit {0}
AreKept (r ∷ rs) = IsKept r × AreKept rs

-- a revision that may be written
pub record IsRevision (r : RevRecord) : Type 0 where
  pub number : r.number ≤ REVISION
  pub props : IsProps r.props
  pub kept : AreKept r.nodes.items
  pub formed : AreFormed r.nodes.items

abbrev pub AreRevisions : List RevRecord → Type 0
AreRevisions [] = Unit {0}
AreRevisions (r ∷ rs) = IsRevision r × AreRevisions rs

-- an identity is sixteen bytes
pub record IsIdentity (id : List ℕ) : Type 0 where
  pub long : length id ≡ 16
  pub bytes : All (λ b. b < 256) id

-- what a node is read as: the kind of a deletion isn't written
abbrev pub read_node : NodeRecord → DumpRecord
read_node r = Node (record r { kind = told_kind r.action r.kind })

abbrev pub read_revision : RevRecord → List DumpRecord
read_revision r = Revision r.number r.props ∷ map read_node r.nodes.items

abbrev pub read_identity : Option (List ℕ) → List DumpRecord
read_identity None = []
read_identity (Some id) = Identity id ∷ []

-- a whole stream that is written
abbrev pub canon_dump : Option (List ℕ) → List RevRecord → List ℕ
canon_dump id revisions = canon_head id ++ flat_map canon_revision revisions

-- and the records that it is read as
abbrev pub read_dump : Option (List ℕ) → List RevRecord → List DumpRecord
read_dump id revisions = read_identity id ++ flat_map read_revision revisions

-- bytes are records of the grammar in each format, whatever stands before them
abbrev pub AreRecords : List ℕ → List DumpRecord → Type 0
AreRecords bytes records = (version : ℕ) (stage : Stage) → IsRecords false version stage bytes records
