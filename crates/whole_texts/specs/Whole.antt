-- The whole records of a revision's nodes.
use Rattle.std.specs.Prelude.{◌≡◌, ℕ, Bool, List, [], ◌∷◌, ◌++◌, map, Some, Ok, Err, is_some, MatchOption}
use Rattle.node_base.specs.Tree.{PathMap}
use Rattle.dump_text.specs.declared.record.NodeRecord.{NodeRecord}
use Rattle.dump_text.specs.declared.record.DeltaText.{DeltaText}
use Rattle.whole_texts.specs.declared.read_node.ReadNode.{ReadNode}
use Rattle.whole_texts.specs.declared.refusal.TextRefusal.{TextRefusal}
use Rattle.whole_texts.specs.Bases.{base_of}
use Rattle.whole_texts.specs.Making.{MakesText, CantMake}
use Rattle.whole_texts.specs.Refusals.{UnlessMemory}

-- a node's own record
abbrev pub node_in : ReadNode → NodeRecord
node_in n = n.node

-- the nodes' own records
abbrev pub records_of : List ReadNode → List NodeRecord
records_of = map node_in

-- its text is given as a delta
abbrev pub is_given : ReadNode → Bool
is_given n = is_some n.delta

-- over the trees before a revision, a record's delta makes this text among the revision's records
pub record Gives (trees : List PathMap) (rs : List NodeRecord) (r : NodeRecord) (d : DeltaText) (text : List ℕ) : Type 0 where
  pub base : List ℕ
  pub over : base_of trees rs r ≡ Ok base
  pub makes : MakesText d base text

-- why a record's delta makes no text: there is none that it is over, or it makes none of that
pub data IsUnmade (trees : List PathMap) (rs : List NodeRecord) (r : NodeRecord) (d : DeltaText) (e : TextRefusal) : Type 0 where
  NoBase : base_of trees rs r ≡ Err e → IsUnmade trees rs r d e
  NoText : (base : List ℕ) → base_of trees rs r ≡ Ok base → CantMake d base e → IsUnmade trees rs r d e

-- w is the whole record of a node: its own, or with the text that its delta makes
abbrev pub IsWhole : List PathMap → List NodeRecord → ReadNode → NodeRecord → Type 0
IsWhole trees rs n w = MatchOption n.delta (w ≡ n.node) (λ d. (text : List ℕ) × Gives trees rs n.node d text × (w ≡ record n.node { text = Some text }))

-- why a node has no whole record
abbrev pub CantBeWhole : List PathMap → List NodeRecord → ReadNode → TextRefusal → Type 0
CantBeWhole trees rs n e = MatchOption n.delta ⊥ (λ d. IsUnmade trees rs n.node d e)

-- the whole records of nodes, one after another
abbrev pub AreWhole : List PathMap → List NodeRecord → List ReadNode → List NodeRecord → Type 0
AreWhole trees rs [] [] = Unit {0}
AreWhole trees rs [] (w ∷ ws) = ⊥
AreWhole trees rs (n ∷ ns) [] = ⊥
AreWhole trees rs (n ∷ ns) (w ∷ ws) = IsWhole trees rs n w × AreWhole trees rs ns ws

-- the first of nodes that has no whole record, and why
pub record IsFirstUnmade (trees : List PathMap) (rs : List NodeRecord) (ns : List ReadNode) (e : TextRefusal) : Type 0 where
  pub front : List ReadNode
  pub rest : List ReadNode
  pub node : ReadNode
  pub made : List NodeRecord
  pub joined : ns ≡ front ++ node ∷ rest
  pub whole : AreWhole trees rs front made
  pub unmade : CantBeWhole trees rs node e

-- why a revision's nodes aren't made whole
abbrev pub IsRefused : List PathMap → List ReadNode → TextRefusal → Type 0
IsRefused trees ns e = UnlessMemory (IsFirstUnmade trees (records_of ns) ns) e
