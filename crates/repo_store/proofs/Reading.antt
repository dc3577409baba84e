-- Entries that are read.
use Rattle.std.proofs.Common.{◌≡◌, ℕ, List, [], ◌∷◌, ◌++◌, map, drop, Option, None, Some, refl, sym, ◌∙◌, ap, ap₂, subst, codes, inl, true, Bool, ◌&&◌}
use Rattle.std.proofs.lemmas.List.{append-nil}
use Rattle.std.specs.FinMap as finite
use Rattle.node_base.specs.Props.{PropMap}
use Rattle.dump_text.specs.Streams.{records_of}
use Rattle.dump_text.specs.Grammar.{version_line}
use Rattle.dump_text.specs.declared.record.DeltaText.{DeltaText}
use Rattle.dump_text.specs.declared.record.NodeRecord.{NodeRecord}
use Rattle.dump_text.specs.declared.record.RevRecord.{RevRecord}
use Rattle.dump_text.specs.declared.record.DumpRecord.{DumpRecord}
use Rattle.dump_text.specs.declared.record.DumpRecord.TheVariants.{Identity, Revision, Node, DeltaNode}
use Rattle.dump_text.specs.Laws.{DumpsAreRead}
use Rattle.node_base.specs.PathText.{path_text}
use Rattle.node_base.specs.declared.node.Action.{Action}
use Rattle.node_base.specs.declared.node.Action.TheVariants.{Modify, Add, Delete, Replace}
use Rattle.node_base.specs.declared.node.NodeKind.{NodeKind}
use Rattle.std.specs.List.{flat_map}
use Rattle.dump_text.specs.Canon.{told_kind, canon_head, canon_entry, canon_node, canon_revision, header_line, kind_line, action_word, source_lines, block_line, text_lines, content_line, content_of}
use Rattle.dump_text.specs.Written.{AreFormed, AreRecords, is_whole_part, are_whole, read_node, read_revision}
use Rattle.dump_text.specs.declared.record.PropPart.TheVariants.{Whole}
use Rattle.dump_load.specs.declared.change.Change.{Change}
use Rattle.std.specs.Option.{option_map}
use Rattle.dump_text.specs.declared.form.Stage.TheVariants.{First}
use Rattle.dump_load.specs.Records.{record_of}
use Rattle.repo_core.specs.Staging.{number_in, props_in}
use Rattle.repo_core.specs.declared.entry.Entry.{Entry}
use Rattle.repo_core.specs.declared.entry.Entry.TheVariants.{Revised, Mapped}
use Rattle.repo_store.specs.Journal.{IsBeginning, Spells, records_in, spelling}
use Rattle.repo_store.specs.Readings.{records_of as records_of_revision, AreReadAs, IsDumpOf, IsRevisionOf, so_far}

revision_among : (ns nodes : List NodeRecord) (number : ℕ) (props : PropMap) (rest : List DumpRecord) → map Node ns ++ Revision number props ∷ rest ≡ map Node nodes → ⊥
revision_among [] [] number props rest h = cc
revision_among [] (m ∷ ms) number props rest h = cc
revision_among (n ∷ ns) [] number props rest h = cc
revision_among (n ∷ ns) (m ∷ ms) number props rest h = revision_among ns ms number props rest (ap (drop 1) h)

identity_among : (ns nodes : List NodeRecord) (id : List ℕ) (rest : List DumpRecord) → map Node ns ++ Identity id ∷ rest ≡ map Node nodes → ⊥
identity_among [] [] id rest h = cc
identity_among [] (m ∷ ms) id rest h = cc
identity_among (n ∷ ns) [] id rest h = cc
identity_among (n ∷ ns) (m ∷ ms) id rest h = identity_among ns ms id rest (ap (drop 1) h)

delta_among : (ns nodes : List NodeRecord) (node : NodeRecord) (delta : DeltaText) (rest : List DumpRecord) → map Node ns ++ DeltaNode node delta ∷ rest ≡ map Node nodes → ⊥
delta_among [] [] node delta rest h = cc
delta_among [] (m ∷ ms) node delta rest h = cc
delta_among (n ∷ ns) [] node delta rest h = cc
delta_among (n ∷ ns) (m ∷ ms) node delta rest h = delta_among ns ms node delta rest (ap (drop 1) h)

-- a second revision record is no node of the first
pub second_revision : (r : RevRecord) (number : ℕ) (props : PropMap) (rest : List DumpRecord) (n : ℕ) (ps : PropMap) (nodes : List NodeRecord)
    → so_far (Some r) ++ Revision number props ∷ rest ≡ Revision n ps ∷ map Node nodes → ⊥
second_revision r number props rest n ps nodes h = revision_among r.nodes.items nodes number props rest (ap (drop 1) h)

-- nor is an identity
pub an_identity : (begun : Option RevRecord) (id : List ℕ) (rest : List DumpRecord) (n : ℕ) (ps : PropMap) (nodes : List NodeRecord)
    → so_far begun ++ Identity id ∷ rest ≡ Revision n ps ∷ map Node nodes → ⊥
an_identity None id rest n ps nodes h = cc
an_identity (Some r) id rest n ps nodes h = identity_among r.nodes.items nodes id rest (ap (drop 1) h)

-- nor is a node whose text is given as a delta one without
pub a_delta : (begun : Option RevRecord) (node : NodeRecord) (delta : DeltaText) (rest : List DumpRecord) (n : ℕ) (ps : PropMap) (nodes : List NodeRecord)
    → so_far begun ++ DeltaNode node delta ∷ rest ≡ Revision n ps ∷ map Node nodes → ⊥
a_delta None node delta rest n ps nodes h = cc
a_delta (Some r) node delta rest n ps nodes h = delta_among r.nodes.items nodes node delta rest (ap (drop 1) h)

-- a node before the first
pub early_node : (node : NodeRecord) (rest : List DumpRecord) (n : ℕ) (ps : PropMap) (nodes : List NodeRecord) → so_far None ++ Node node ∷ rest ≡ Revision n ps ∷ map Node nodes → ⊥
early_node node rest n ps nodes h = cc

-- no revision has no record
pub no_record : (n : ℕ) (ps : PropMap) (nodes : List NodeRecord) → [] ≡ Revision n ps ∷ map Node nodes → ⊥
no_record n ps nodes h = cc

-- what is an entry is read as its records
pub spelled_read : (law : DumpsAreRead) (bytes : List ℕ) (e : Entry) → Spells bytes e → AreReadAs bytes (records_in e)
spelled_read law bytes e s = (_, law 2 (version_line ++ 10 ∷ 10 ∷ bytes) (records_in e) (version_line, bytes, inl (refl, refl), refl, s.readable 2 First))

-- bytes are read in one way
pub one_read : (bytes : List ℕ) (rs others : List DumpRecord) → AreReadAs bytes rs → AreReadAs bytes others → rs ≡ others
one_read bytes rs others a b = ap records_of (sym a.1 ∙ b.1)

abbrev pub told_of : NodeRecord → NodeRecord
told_of r = record r { kind = told_kind r.action r.kind }

nodes_told : (ns : List NodeRecord) → map read_node ns ≡ map Node (map told_of ns)
nodes_told [] = refl
nodes_told (n ∷ ns) = ap (λ (l : List DumpRecord). Node (told_of n) ∷ l) (nodes_told ns)

-- the nodes that an entry says
abbrev pub nodes_in : Entry → List NodeRecord
nodes_in (Revised n set props) = map told_of (map record_of set)
nodes_in (Mapped n props) = []

-- an entry's records are those of one revision
pub one_revision : (e : Entry) → records_in e ≡ Revision (number_in e) (props_in e) ∷ map Node (nodes_in e)
one_revision (Revised n set props) = ap (λ (l : List DumpRecord). Revision n props ∷ l) (nodes_told (map record_of set))
one_revision (Mapped n props) = refl

twice : (a : Action) (k : Option NodeKind) → told_kind a (told_kind a k) ≡ told_kind a k
twice Modify k = refl
twice Add k = refl
twice Delete k = refl
twice Replace k = refl

canon_told : (r : NodeRecord) → canon_node (told_of r) ≡ canon_node r
canon_told r =
    ap (λ (k : Option NodeKind). header_line (codes "Node-path: ") (path_text r.path) ++ (kind_line k ++ (header_line (codes "Node-action: ") (action_word r.action) ++ (source_lines r.source ++ (block_line r.props ++ (text_lines r.text ++ (content_line r.props r.text ++ content_of r.props r.text)))))))
    (twice r.action r.kind)

canon_nodes : (ns : List NodeRecord) → flat_map canon_node (map told_of ns) ≡ flat_map canon_node ns
canon_nodes [] = refl
canon_nodes (n ∷ ns) = ap₂ (λ (a b : List ℕ). a ++ b) (canon_told n) (canon_nodes ns)

-- an entry's spelling is that of its one revision
pub one_spelling : (e : Entry) → spelling e ≡ canon_entry (number_in e) (props_in e) ++ flat_map canon_node (nodes_in e)
one_spelling (Revised n set props) = ap (λ (l : List ℕ). canon_entry n props ++ l) (sym (canon_nodes (map record_of set)))
one_spelling (Mapped n props) = sym (append-nil (canon_entry n props))

abbrev number_told : DumpRecord → ℕ
number_told (Revision n props) = n
number_told (Identity id) = 0
number_told (Node r) = 0
number_told (DeltaNode r d) = 0

-- a revision that is read from an entry is the entry's
pub read_back : (law : DumpsAreRead) (bytes : List ℕ) (e : Entry) (r : RevRecord) (rs : List DumpRecord) → Spells bytes e → AreReadAs bytes rs → records_of_revision r ≡ rs
    → records_of_revision r ≡ Revision (number_in e) (props_in e) ∷ map Node (nodes_in e)
read_back law bytes e r rs spells read same = same ∙ one_read bytes rs (records_in e) read (spelled_read law bytes e spells) ∙ one_revision e

-- no refusal where an entry is read
pub never_refused : (law : DumpsAreRead) (bytes : List ℕ) (e : Entry) (rs : List DumpRecord) → Spells bytes e → AreReadAs bytes rs → rs ≡ Revision (number_in e) (props_in e) ∷ map Node (nodes_in e)
never_refused law bytes e rs spells read = one_read bytes rs (records_in e) read (spelled_read law bytes e spells) ∙ one_revision e

-- the nodes among records
abbrev nodes_among : List DumpRecord → List NodeRecord
nodes_among [] = []
nodes_among (Node r ∷ rs) = r ∷ nodes_among rs
nodes_among (DeltaNode r d ∷ rs) = nodes_among rs
nodes_among (Revision n props ∷ rs) = nodes_among rs
nodes_among (Identity id ∷ rs) = nodes_among rs

nodes_alone : (ns : List NodeRecord) → nodes_among (map Node ns) ≡ ns
nodes_alone [] = refl
nodes_alone (n ∷ ns) = ap (λ (l : List NodeRecord). n ∷ l) (nodes_alone ns)

abbrev first_number : List DumpRecord → ℕ
first_number [] = 0
first_number (r ∷ rs) = number_told r

abbrev props_told : DumpRecord → PropMap
props_told (Revision n props) = props
props_told (Identity id) = finite.empty
props_told (Node r) = finite.empty
props_told (DeltaNode r d) = finite.empty

abbrev first_props : List DumpRecord → PropMap
first_props [] = finite.empty
first_props (r ∷ rs) = props_told r

-- one revision that is told has one number, one map and one list of nodes
pub one_told : (n m : ℕ) (props others : PropMap) (ns ms : List NodeRecord) → Revision n props ∷ map Node ns ≡ Revision m others ∷ map Node ms → (n ≡ m) × (props ≡ others) × (ns ≡ ms)
one_told n m props others ns ms same = (ap first_number same, ap first_props same, sym (nodes_alone ns) ∙ ap nodes_among same ∙ nodes_alone ms)

-- an entry that is read has the revision's number, properties and nodes
pub revision_is : (law : DumpsAreRead) (bytes : List ℕ) (e : Entry) (r : RevRecord) → Spells bytes e → AreReadAs bytes (records_of_revision r)
    → (r.number ≡ number_in e) × (r.props ≡ props_in e) × (r.nodes.items ≡ nodes_in e)
revision_is law bytes e r spells read =
    one_told r.number (number_in e) r.props (props_in e) r.nodes.items (nodes_in e) (read_back law bytes e r (records_of_revision r) spells read refl)

-- and its spelling
pub spelled_alike : (law : DumpsAreRead) (bytes : List ℕ) (e : Entry) (r : RevRecord) (rs : List DumpRecord) → Spells bytes e → AreReadAs bytes rs → records_of_revision r ≡ rs → canon_revision r ≡ bytes
spelled_alike law bytes e r rs spells read same =
    let (number, props, nodes) = revision_is law bytes e r spells (subst (λ (l : List DumpRecord). AreReadAs bytes l) (sym same) read) in
    (λ i. canon_entry (number i) (props i) ++ flat_map canon_node (nodes i)) ∙ sym (one_spelling e) ∙ sym spells.canonical

-- what is a first entry is read as its records
pub beginning_read : (law : DumpsAreRead) (bytes identity : List ℕ) (props : PropMap) → IsBeginning bytes identity props → IsDumpOf bytes (Identity identity ∷ Revision 0 props ∷ [])
beginning_read law bytes identity props begins = (_, law begins.readable.0 bytes (Identity identity ∷ Revision 0 props ∷ []) begins.readable.1)

-- bytes are one dump
pub one_dump : (bytes : List ℕ) (rs others : List DumpRecord) → IsDumpOf bytes rs → IsDumpOf bytes others → rs ≡ others
one_dump bytes rs others a b = ap records_of (sym a.1 ∙ b.1)

abbrev identity_told : DumpRecord → List ℕ
identity_told (Identity id) = id
identity_told (Revision n props) = []
identity_told (Node r) = []
identity_told (DeltaNode r d) = []

abbrev first_identity : List DumpRecord → List ℕ
first_identity [] = []
first_identity (r ∷ rs) = identity_told r

abbrev second_props : List DumpRecord → PropMap
second_props [] = finite.empty
second_props (r ∷ rs) = first_props rs

-- of one identity and one map
pub one_beginning : (id other : List ℕ) (props others : PropMap) → Identity id ∷ Revision 0 props ∷ [] ≡ Identity other ∷ Revision 0 others ∷ [] → (id ≡ other) × (props ≡ others)
one_beginning id other props others same = (ap first_identity same, ap second_props same)

-- no refusal where a first entry is read
pub never_no_beginning : (law : DumpsAreRead) (bytes identity : List ℕ) (props : PropMap) (rs : List DumpRecord) → IsBeginning bytes identity props → IsDumpOf bytes rs → rs ≡ Identity identity ∷ Revision 0 props ∷ []
never_no_beginning law bytes identity props rs begins read = one_dump bytes rs (Identity identity ∷ Revision 0 props ∷ []) read (beginning_read law bytes identity props begins)

-- and its spelling is the same
pub begun_alike : (law : DumpsAreRead) (bytes written identity other : List ℕ) (props others : PropMap) (rs : List DumpRecord) → IsBeginning bytes identity props → IsDumpOf bytes rs
    → rs ≡ Identity other ∷ Revision 0 others ∷ [] → IsBeginning written other others → written ≡ bytes
begun_alike law bytes written identity other props others rs begins read same writes =
    let (one, map_same) = one_beginning other identity others props (sym same ∙ never_no_beginning law bytes identity props rs begins read) in
    writes.canonical ∙ (λ i. canon_head (Some (one i)) ++ canon_entry 0 (map_same i)) ∙ sym begins.canonical

-- the property lists of an entry's records are whole
whole_part : (o : Option PropMap) → is_whole_part (option_map Whole o) ≡ true
whole_part None = refl
whole_part (Some p) = refl

whole_set : (set : List Change) → are_whole (map told_of (map record_of set)) ≡ true
whole_set [] = refl
whole_set (c ∷ s) = λ i. whole_part c.props i && whole_set s i

whole_nodes : (e : Entry) → are_whole (nodes_in e) ≡ true
whole_nodes (Revised n set props) = whole_set set
whole_nodes (Mapped n props) = refl

-- so are those of the revision that is read from it
pub whole_alike : (law : DumpsAreRead) (bytes : List ℕ) (e : Entry) (r : RevRecord) (rs : List DumpRecord) → Spells bytes e → AreReadAs bytes rs → records_of_revision r ≡ rs → are_whole r.nodes.items ≡ true
whole_alike law bytes e r rs spells read same =
    let (number, props, nodes) = revision_is law bytes e r spells (subst (λ (l : List DumpRecord). AreReadAs bytes l) (sym same) read) in
    ap are_whole nodes ∙ whole_nodes e

-- what is read and written again is a revision
pub is_revision : (bytes : List ℕ) (r : RevRecord) (rs : List DumpRecord) → are_whole r.nodes.items ≡ true → canon_revision r ≡ bytes → AreReadAs bytes rs → records_of_revision r ≡ rs
    → (AreFormed r.nodes.items → AreRecords (canon_revision r) (read_revision r)) → IsRevisionOf bytes r
is_revision bytes r rs whole canonical read same readable = record {
  whole = whole;
  canonical = sym canonical;
  read = subst (λ (l : List DumpRecord). AreReadAs bytes l) (sym same) read;
  readable = λ formed. subst (λ (l : List ℕ). AreRecords l (read_revision r)) canonical (readable formed);
}

-- and a first entry
pub is_beginning : (bytes written identity : List ℕ) (props : PropMap) → IsBeginning written identity props → written ≡ bytes → IsBeginning bytes identity props
is_beginning bytes written identity props begins same = subst (λ (l : List ℕ). IsBeginning l identity props) same begins
