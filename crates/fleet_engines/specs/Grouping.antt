-- A stream's records as revisions, whatever the order of taking.
use Rattle.std.specs.Prelude.{◌≡◌, ℕ, Bool, true, false, List, [], ◌∷◌, ◌++◌, map, Option, Some, None}
use Rattle.std.specs.List.{filter, flat_map}
use Rattle.std.specs.FinMap as finite
use Rattle.node_base.specs.Props.{PropMap}
use Rattle.node_base.specs.Tree.{PathMap}
use Rattle.dump_text.specs.declared.record.DeltaText.{DeltaText}
use Rattle.dump_text.specs.declared.record.DumpRecord.{DumpRecord}
use Rattle.dump_text.specs.declared.record.DumpRecord.TheVariants.{Identity, Revision, Node, DeltaNode}
use Rattle.dump_text.specs.declared.record.NodeRecord.{NodeRecord}
use Rattle.dump_load.specs.declared.change.Change.{Change}
use Rattle.whole_texts.specs.declared.read_node.ReadNode.{ReadNode}
use Rattle.fleet_engines.specs.Revisions.{Rev, Told, root_alone, untold, by_set, Makes, Closes, Tells}

abbrev pub is_no_identity : DumpRecord → Bool
is_no_identity (Identity id) = false
is_no_identity r = true

-- the last identity before the first other record
abbrev pub identity_of : Option (List ℕ) → List DumpRecord → Option (List ℕ)
identity_of known [] = known
identity_of known (Identity id ∷ rs) = identity_of (Some id) rs
identity_of known (r ∷ rs) = known

-- a node's record, with its delta or without one
abbrev pub with_delta : NodeRecord → Option DeltaText → DumpRecord
with_delta x None = Node x
with_delta x (Some d) = DeltaNode x d

-- the record that a node was read from
abbrev pub record_of_node : ReadNode → DumpRecord
record_of_node n = with_delta n.node n.delta

-- a revision's record, and one for each of its nodes
abbrev pub records_of_rev : Rev → List DumpRecord
records_of_rev r = Revision r.number r.props ∷ map record_of_node r.nodes

-- entries of revision 0, which has no nodes
abbrev pub AreZero : List Rev → Type 0
AreZero [] = Unit {0}
AreZero (r ∷ rs) = (r.number ≡ 0) × (r.nodes ≡ []) × AreZero rs

-- the properties of the last entry
abbrev pub zero_of : PropMap → List Rev → PropMap
zero_of props [] = props
zero_of props (r ∷ rs) = zero_of r.props rs

-- revisions that make trees one after another, each with the next number, and how they are written
abbrev pub MakeTrees : List PathMap → List Rev → List PathMap → List Rev → Type 0
MakeTrees trees [] all out = (all ≡ trees) × (out ≡ [])
MakeTrees trees (r ∷ rs) all out = (set : List Change) × (tree : PathMap) × (rest : List Rev) × Makes trees r set tree × MakeTrees (trees ++ tree ∷ []) rs all rest × (out ≡ by_set r set ∷ rest)

-- apart from identities, records are entries of revision 0 and then the revisions, each followed by its nodes; the identity is the last one before them
pub record Grouped (rs : List DumpRecord) (all : Told) (out : List Rev) : Type 0 where
  pub zeros : List Rev
  pub revisions : List Rev
  pub records : filter is_no_identity rs ≡ flat_map records_of_rev (zeros ++ revisions)
  pub identity : all.identity ≡ identity_of None rs
  pub entries : AreZero zeros
  pub props : all.zero ≡ zero_of finite.empty zeros
  pub trees : MakeTrees (root_alone ∷ []) revisions all.trees out

-- what is accepted record by record is such a list of revisions
abbrev pub RevisionsAreGrouped : Type 0
RevisionsAreGrouped = (rs : List DumpRecord) (t all : Told) (out newest : List Rev) → Tells untold rs t out → Closes t all newest → Grouped rs all (out ++ newest)
