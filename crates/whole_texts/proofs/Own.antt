-- Where no text is given as a delta, the whole records are the nodes' own.
use Rattle.std.proofs.Common.{◌≡◌, ℕ, Bool, true, false, ◌||◌, List, [], ◌∷◌, Option, Some, None, is_some, MatchOption, refl}
use Rattle.std.specs.List.{list_any}
use Rattle.node_base.specs.Tree.{PathMap}
use Rattle.dump_text.specs.declared.record.NodeRecord.{NodeRecord}
use Rattle.dump_text.specs.declared.record.DeltaText.{DeltaText}
use Rattle.whole_texts.specs.declared.read_node.ReadNode.{ReadNode}
use Rattle.whole_texts.specs.Whole.{Gives, is_given, records_of, AreWhole}

both_false : (a b : Bool) → (a || b) ≡ false → (a ≡ false) × (b ≡ false)
both_false false b e = (refl, e)
both_false true b e = cc

module _ (trees : List PathMap) (rs : List NodeRecord) where
  abbrev WholeBy : NodeRecord → NodeRecord → Option DeltaText → Type 0
  WholeBy r w o = MatchOption o (w ≡ r) (λ d. (text : List ℕ) × Gives trees rs r d text × (w ≡ record r { text = Some text }))

  own_by : (r : NodeRecord) (o : Option DeltaText) → is_some o ≡ false → WholeBy r r o
  own_by r None e = refl
  own_by r (Some d) e = cc

  by_own : (r w : NodeRecord) (o : Option DeltaText) → is_some o ≡ false → WholeBy r w o → w ≡ r
  by_own r w None e h = h
  by_own r w (Some d) e h = cc

  pub own_are_whole : (ns : List ReadNode) → list_any is_given ns ≡ false → AreWhole trees rs ns (records_of ns)
  own_are_whole [] e = tt
  own_are_whole (n ∷ ns) e =
      let b = both_false (is_given n) (list_any is_given ns) e in
      (own_by n.node n.delta b.0, own_are_whole ns b.1)

  pub whole_are_own : (ns : List ReadNode) (ws : List NodeRecord) → list_any is_given ns ≡ false → AreWhole trees rs ns ws → ws ≡ records_of ns
  whole_are_own [] [] e h = refl
  whole_are_own [] (w ∷ ws) e h = absurd h
  whole_are_own (n ∷ ns) [] e h = absurd h
  whole_are_own (n ∷ ns) (w ∷ ws) e h =
      let b = both_false (is_given n) (list_any is_given ns) e in
      λ i. by_own n.node w n.delta b.0 h.0 i ∷ whole_are_own ns ws b.1 h.1 i
