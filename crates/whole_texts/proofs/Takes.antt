-- The whole records of nodes, one after another.
use Rattle.std.proofs.Common.{◌≡◌, ℕ, List, [], ◌∷◌, ◌++◌, Option, Some, MatchOption, Ok, sym, subst}
use Rattle.node_base.specs.Tree.{PathMap}
use Rattle.dump_text.specs.declared.record.NodeRecord.{NodeRecord}
use Rattle.dump_text.specs.declared.record.DeltaText.{DeltaText}
use Rattle.whole_texts.specs.declared.read_node.ReadNode.{ReadNode}
use Rattle.whole_texts.specs.declared.refusal.TextRefusal.{TextRefusal}
use Rattle.whole_texts.specs.declared.refusal.TextRefusal.TheVariants as refusal
use Rattle.whole_texts.specs.Bases.{base_of}
use Rattle.whole_texts.specs.Making.{CantMake}
use Rattle.whole_texts.specs.Refusals.{UnlessMemory}
use Rattle.whole_texts.specs.Whole.{IsUnmade, NoText, IsWhole, CantBeWhole, AreWhole}

-- a refusal for a reason of the one kind is one for a reason of the other
pub unless : (P Q : TextRefusal → Type 0) → ((e : TextRefusal) → P e → Q e) → (e : TextRefusal) → UnlessMemory P e → UnlessMemory Q e
unless P Q f refusal.OutOfMemory h = tt
unless P Q f e h = f e h

module _ (trees : List PathMap) (rs : List NodeRecord) where
  module _ (r : NodeRecord) (d : DeltaText) where
    pub no_text : (base : List ℕ) → base_of trees rs r ≡ Ok base → (e : TextRefusal) → UnlessMemory (CantMake d base) e → UnlessMemory (IsUnmade trees rs r d) e
    no_text base over = unless (CantMake d base) (IsUnmade trees rs r d) (λ e h. NoText base over h)

  module _ (n : ReadNode) where
    pub cant : (d : DeltaText) → n.delta ≡ Some d → (e : TextRefusal) → UnlessMemory (IsUnmade trees rs n.node d) e → UnlessMemory (CantBeWhole trees rs n) e
    cant d is = unless (IsUnmade trees rs n.node d) (CantBeWhole trees rs n) (λ e h. subst (λ (o : Option DeltaText). MatchOption o ⊥ (λ d. IsUnmade trees rs n.node d e)) (sym is) h)

  pub one_more_whole : (ns : List ReadNode) (ws : List NodeRecord) (n : ReadNode) (w : NodeRecord) → AreWhole trees rs ns ws → IsWhole trees rs n w → AreWhole trees rs (ns ++ n ∷ []) (ws ++ w ∷ [])
  one_more_whole [] [] n w h is = (is, tt)
  one_more_whole [] (v ∷ ws) n w h is = absurd h
  one_more_whole (m ∷ ns) [] n w h is = absurd h
  one_more_whole (m ∷ ns) (v ∷ ws) n w h is = (h.0, one_more_whole ns ws n w h.1 is)
