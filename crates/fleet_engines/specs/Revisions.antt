-- What a dump's records tell: its revisions, judged one after another.
use Rattle.std.specs.Prelude.{◌≡◌, ◌<◌, ◌≤◌, ◌⊎◌, ℕ, ◌==◌, ◌&&◌, not, Bool, true, false, List, [], ◌∷◌, ◌++◌, map, length, Option, Some, None, is_none, if◌then◌else◌}
use Rattle.std.specs.Option.{option_map_or}
use Rattle.std.specs.FinMap as finite
use Rattle.node_base.specs.Props.{PropMap}
use Rattle.node_base.specs.Tree.{PathMap, new_dir}
use Rattle.node_base.specs.declared.refusal.Refusal.{Refusal}
use Rattle.node_base.specs.declared.refusal.Refusal.TheVariants.{OutOfMemory, WrongNumber}
use Rattle.dump_text.specs.declared.record.NodeRecord.{NodeRecord}
use Rattle.dump_text.specs.declared.record.DumpRecord.{DumpRecord}
use Rattle.dump_text.specs.declared.record.DumpRecord.TheVariants.{Identity, Revision, Node, DeltaNode}
use Rattle.dump_load.specs.declared.change.Change.{Change}
use Rattle.dump_load.specs.declared.fault.ChangeFault.{ChangeFault}
use Rattle.dump_load.specs.Faults.{change_refusal}
use Rattle.dump_load.specs.Trees.{Makes as MakesTree}
use Rattle.dump_load.specs.declared.load.Applied.{Applied}
use Rattle.dump_load.specs.Records.{change_of, record_of, set_fault, IsNormalSetOf, IsLoadRefusal}
use Rattle.whole_texts.specs.declared.read_node.ReadNode.{ReadNode}
use Rattle.whole_texts.specs.declared.refusal.TextRefusal.{TextRefusal}
use Rattle.whole_texts.specs.Refusals.{text_refusal}
use Rattle.whole_texts.specs.Whole.{node_in, records_of, AreWhole, IsRefused}

-- a node whose text isn't given as a delta
abbrev pub plain : NodeRecord → ReadNode
plain x = record { node = x; delta = None }

-- the changes that nodes state
abbrev pub changes_of : List ReadNode → List Change
changes_of ns = map (λ n. change_of (node_in n)) ns

-- a revision: its number, its properties and its nodes as they were read
pub record Rev : Type 0 where
  pub number : ℕ
  pub props : PropMap
  pub nodes : List ReadNode

-- what records have told: an identity, the properties of revision 0, the trees from revision 0 on, and the revision that is still read
pub record Told : Type 0 where
  pub identity : Option (List ℕ)
  pub zero : PropMap
  pub trees : List PathMap
  pub last : Option Rev

-- the root alone, which nothing has changed
abbrev pub root_alone : PathMap
root_alone = finite.insert finite.empty [] new_dir

-- before the first record
abbrev pub untold : Told
untold = record { identity = None; zero = finite.empty; trees = root_alone ∷ []; last = None }

-- over the trees before it, nodes have these records, once their texts are made whole
abbrev pub HaveRecords : List PathMap → List ReadNode → List NodeRecord → Type 0
HaveRecords trees ns whole = AreWhole trees (records_of ns) ns whole

-- over the trees before it, a revision makes that tree, by the set of changes that its whole records give
pub record Makes (trees : List PathMap) (r : Rev) (set : List Change) (tree : PathMap) : Type 0 where
  pub next : r.number ≡ length trees
  pub whole : List NodeRecord
  pub records : HaveRecords trees r.nodes whole
  pub normal : IsNormalSetOf trees whole set
  pub made : MakesTree trees set tree

-- over the trees before it, a revision is refused: its number isn't the next one; or its nodes are more than 8,192, and what they state makes no set; or else a text can't be made whole; or the whole records give no set, or one with a fault
pub data IsUnfit (trees : List PathMap) (r : Rev) (e : Refusal) : Type 0 where
  not_next : (r.number ≡ length trees → ⊥) → e ≡ WrongNumber → IsUnfit trees r e
  too_many : (f : ChangeFault) → r.number ≡ length trees → 8192 < length r.nodes → set_fault (changes_of r.nodes) ≡ Some f → e ≡ change_refusal f → IsUnfit trees r e
  not_whole : (f : TextRefusal) → r.number ≡ length trees → length r.nodes ≤ 8192 → IsRefused trees r.nodes f → e ≡ text_refusal f → IsUnfit trees r e
  not_made : (whole : List NodeRecord) (f : ChangeFault) → length r.nodes ≤ 8192 → HaveRecords trees r.nodes whole → IsLoadRefusal trees r.number whole f → e ≡ change_refusal f → IsUnfit trees r e

-- with whatever properties, a revision of that number and these nodes makes this
abbrev pub MakesSet : List PathMap → ℕ → List ReadNode → Applied → Type 0
MakesSet trees number nodes made = (props : PropMap) → Makes trees (record { number = number; props = props; nodes = nodes }) made.set made.tree

-- with whatever properties, it is refused
abbrev pub MakesNone : List PathMap → ℕ → List ReadNode → Refusal → Type 0
MakesNone trees number nodes e = (props : PropMap) → IsUnfit trees (record { number = number; props = props; nodes = nodes }) e

-- the revision as it is written: its changes in path order, each path once
abbrev pub by_set : Rev → List Change → Rev
by_set r set = record { number = r.number; props = r.props; nodes = map plain (map record_of set) }

-- whether revision 0 alone has its tree
abbrev pub is_lone : List PathMap → Bool
is_lone trees = length trees == 1

-- whether it is revision 0, before any other
abbrev pub is_zero : List PathMap → Rev → Bool
is_zero trees r = is_lone trees && r.number == 0

-- the revision that was read is whole: there is none, or revision 0 gives its properties, or another one makes a tree and is written
pub data Closes (t : Told) (u : Told) (out : List Rev) : Type 0 where
  no_revision : t.last ≡ None → u ≡ t → out ≡ [] → Closes t u out
  revision_0 : (r : Rev) → t.last ≡ Some r → is_zero t.trees r ≡ true → u ≡ record t { zero = r.props; last = None } → out ≡ [] → Closes t u out
  a_revision : (r : Rev) (set : List Change) (tree : PathMap) → t.last ≡ Some r → is_zero t.trees r ≡ false → Makes t.trees r set tree → u ≡ record t { trees = t.trees ++ tree ∷ []; last = None } → out ≡ by_set r set ∷ [] → Closes t u out

-- the revision that was read is refused
abbrev pub CantClose : Told → Refusal → Type 0
CantClose t e = (r : Rev) × (t.last ≡ Some r) × (is_zero t.trees r ≡ false) × IsUnfit t.trees r e

-- an identity counts before the first revision
abbrev pub identified : Told → List ℕ → Told
identified t id = if is_lone t.trees && is_none t.last then record t { identity = Some id } else t

-- whether a revision other than 0 is read
abbrev pub is_past_zero : Option Rev → Bool
is_past_zero last = option_map_or (λ r. not (r.number == 0)) last false

-- a node more, of a revision other than 0
abbrev pub TakesNode : Told → ReadNode → Told → List Rev → Type 0
TakesNode t n u out = (r : Rev) × (t.last ≡ Some r) × (is_past_zero t.last ≡ true) × (u ≡ record t { last = Some (record r { nodes = r.nodes ++ n ∷ [] }) }) × (out ≡ [])

-- it is refused: no revision other than 0 is read
abbrev pub CantTakeNode : Told → Refusal → Type 0
CantTakeNode t e = (e ≡ WrongNumber) × (is_past_zero t.last ≡ false)

-- the revision that is read, which is another than 0, has a node more
abbrev pub AddsNode : Option Rev → ReadNode → Option Rev → Type 0
AddsNode before node after = (r : Rev) × (before ≡ Some r) × (is_past_zero before ≡ true) × (after ≡ Some (record r { nodes = r.nodes ++ node ∷ [] }))

-- memory ran out, or the refusal has P
abbrev pub MemoryOr : (Refusal → Type 0) → Refusal → Type 0
MemoryOr P e = (e ≡ OutOfMemory) ⊎ P e

-- memory ran out, or no revision other than 0 is read
abbrev pub RefusesNode : Option Rev → Refusal → Type 0
RefusesNode last e = (e ≡ OutOfMemory) ⊎ ((e ≡ WrongNumber) × (is_past_zero last ≡ false))

-- one record more, and the revision that is whole by it
abbrev pub Takes : Told → DumpRecord → Told → List Rev → Type 0
Takes t (Identity id) u out = (u ≡ identified t id) × (out ≡ [])
Takes t (Revision n props) u out = (m : Told) × Closes t m out × (u ≡ record m { last = Some (record { number = n; props = props; nodes = [] }) })
Takes t (Node x) u out = TakesNode t (plain x) u out
Takes t (DeltaNode x d) u out = TakesNode t (record { node = x; delta = Some d }) u out

-- a record is refused: it begins a revision and the one before it is refused, or it is a node under revision 0
abbrev pub CantTake : Told → DumpRecord → Refusal → Type 0
CantTake t (Identity id) e = ⊥
CantTake t (Revision n props) e = CantClose t e
CantTake t (Node x) e = CantTakeNode t e
CantTake t (DeltaNode x d) e = CantTakeNode t e

-- records one after another, and the revisions that are whole by them
abbrev pub Tells : Told → List DumpRecord → Told → List Rev → Type 0
Tells t [] u out = (u ≡ t) × (out ≡ [])
Tells t (r ∷ rs) u out = (m : Told) × (first rest : List Rev) × Takes t r m first × Tells m rs u rest × (out ≡ first ++ rest)
