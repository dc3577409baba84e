-- Laws of whole records.
use Rattle.std.specs.Prelude.{◌≡◌, false, List}
use Rattle.std.specs.List.{list_any}
use Rattle.node_base.specs.Tree.{PathMap}
use Rattle.dump_text.specs.declared.record.NodeRecord.{NodeRecord}
use Rattle.whole_texts.specs.declared.read_node.ReadNode.{ReadNode}
use Rattle.whole_texts.specs.declared.refusal.TextRefusal.{TextRefusal}
use Rattle.whole_texts.specs.Whole.{is_given, records_of, AreWhole, IsFirstUnmade}

-- nodes have one list of whole records at most
abbrev pub OneWhole : Type 0
OneWhole = (trees : List PathMap) (rs : List NodeRecord) (ns : List ReadNode) (vs ws : List NodeRecord) → AreWhole trees rs ns vs → AreWhole trees rs ns ws → vs ≡ ws

-- where no text is given as a delta, the nodes' own records are whole
abbrev pub OwnAreWhole : Type 0
OwnAreWhole = (trees : List PathMap) (rs : List NodeRecord) (ns : List ReadNode) → list_any is_given ns ≡ false → AreWhole trees rs ns (records_of ns)

-- and no others are
abbrev pub WholeAreOwn : Type 0
WholeAreOwn = (trees : List PathMap) (rs : List NodeRecord) (ns : List ReadNode) (ws : List NodeRecord) → list_any is_given ns ≡ false → AreWhole trees rs ns ws → ws ≡ records_of ns

-- nodes of which one has no whole record have no list of them
abbrev pub NoneWhole : Type 0
NoneWhole = (trees : List PathMap) (rs : List NodeRecord) (ns : List ReadNode) (ws : List NodeRecord) (e : TextRefusal) → IsFirstUnmade trees rs ns e → AreWhole trees rs ns ws → ⊥

-- and that is so for one reason
abbrev pub OneCause : Type 0
OneCause = (trees : List PathMap) (rs : List NodeRecord) (ns : List ReadNode) (d e : TextRefusal) → IsFirstUnmade trees rs ns d → IsFirstUnmade trees rs ns e → d ≡ e
