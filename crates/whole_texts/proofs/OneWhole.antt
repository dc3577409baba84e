-- Nodes have one list of whole records at most.
use Rattle.std.proofs.Common.{◌≡◌, ℕ, List, [], ◌∷◌, Option, Some, None, MatchOption, Result, Ok, Err, refl, sym, ap, subst, ◌∙◌}
use Rattle.node_base.specs.Tree.{PathMap}
use Rattle.dump_text.specs.declared.record.NodeRecord.{NodeRecord}
use Rattle.svndiff.specs.DeltaGrammar.{IsDelta}
use Rattle.svndiff.proofs.DeltaRead.{one_made}
use Rattle.dump_text.specs.declared.record.DeltaText.{DeltaText}
use Rattle.whole_texts.specs.declared.read_node.ReadNode.{ReadNode}
use Rattle.whole_texts.specs.declared.refusal.TextRefusal.{TextRefusal}
use Rattle.whole_texts.specs.Whole.{Gives, AreWhole}

abbrev text_in : Result (List ℕ) TextRefusal → List ℕ
text_in (Ok text) = text
text_in (Err e) = []

one_text : (trees : List PathMap) (rs : List NodeRecord) (r : NodeRecord) (d : DeltaText) (s t : List ℕ) → Gives trees rs r d s → Gives trees rs r d t → s ≡ t
one_text trees rs r d s t a b =
    let same : a.base ≡ b.base = ap text_in (sym a.over ∙ b.over) in
    one_made d.bytes b.base s t (subst (λ base. IsDelta d.bytes base s) same a.makes.delta) b.makes.delta

one_record : (trees : List PathMap) (rs : List NodeRecord) (r : NodeRecord) (o : Option DeltaText) (v w : NodeRecord)
    → MatchOption o (v ≡ r) (λ d. (text : List ℕ) × Gives trees rs r d text × (v ≡ record r { text = Some text }))
    → MatchOption o (w ≡ r) (λ d. (text : List ℕ) × Gives trees rs r d text × (w ≡ record r { text = Some text }))
    → v ≡ w
one_record trees rs r None v w a b = a ∙ sym b
one_record trees rs r (Some d) v w a b = a.2 ∙ ap (λ (t : List ℕ). record r { text = Some t }) (one_text trees rs r d a.0 b.0 a.1 b.1) ∙ sym b.2

pub one_whole : (trees : List PathMap) (rs : List NodeRecord) (ns : List ReadNode) (vs ws : List NodeRecord) → AreWhole trees rs ns vs → AreWhole trees rs ns ws → vs ≡ ws
one_whole trees rs [] [] [] a b = refl
one_whole trees rs [] [] (w ∷ ws) a b = absurd b
one_whole trees rs [] (v ∷ vs) ws a b = absurd a
one_whole trees rs (n ∷ ns) [] ws a b = absurd a
one_whole trees rs (n ∷ ns) (v ∷ vs) [] a b = absurd b
one_whole trees rs (n ∷ ns) (v ∷ vs) (w ∷ ws) a b = λ i. one_record trees rs n.node n.delta v w a.0 b.0 i ∷ one_whole trees rs ns vs ws a.1 b.1 i
