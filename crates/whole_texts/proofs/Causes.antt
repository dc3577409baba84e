-- Nodes that are refused have no whole records, and they are refused for one cause.
use Rattle.std.proofs.Common.{◌≡◌, ◌⊎◌, ℕ, List, [], ◌∷◌, ◌++◌, Option, Some, None, MatchOption, Result, Ok, Err, inl, inr, refl, sym, ap, subst, ◌∙◌}
use Rattle.node_base.specs.Tree.{PathMap}
use Rattle.dump_text.specs.declared.record.NodeRecord.{NodeRecord}
use Rattle.svndiff.specs.DeltaGrammar.{IsDelta}
use Rattle.svndiff.specs.DeltaStreams.{Reads, Refuses}
use Rattle.svndiff.specs.declared.delta.Delta.{Delta}
use Rattle.svndiff.specs.declared.delta_fault.DeltaFault.{DeltaFault}
use Rattle.svndiff.specs.declared.delta_fault.DeltaFault.TheVariants as fault
use Rattle.svndiff.proofs.DeltaRead.{deltas_are_read, one_made}
use Rattle.dump_text.specs.declared.record.DeltaText.{DeltaText}
use Rattle.whole_texts.specs.declared.read_node.ReadNode.{ReadNode}
use Rattle.whole_texts.specs.declared.refusal.TextRefusal.{TextRefusal}
use Rattle.whole_texts.specs.declared.refusal.TextRefusal.TheVariants as refusal
use Rattle.whole_texts.specs.Bases.{base_of}
use Rattle.whole_texts.specs.Making.{SumsTo, MakesText, IsPastLimit, MakesNone, HasOtherSum, CantMake, OtherBase, NoDelta, OtherText}
use Rattle.whole_texts.specs.Whole.{Gives, IsUnmade, NoBase, NoText, CantBeWhole, AreWhole, IsFirstUnmade}

-- ---- bytes and sums

never : (text whole : List ℕ) (d : Delta) (f : DeltaFault) → Refuses text f ≡ Reads whole d → ⊥
never text whole d f e = cc

makes_none : (bytes base text : List ℕ) (e : TextRefusal) → MakesNone bytes base e → IsDelta bytes base text → ⊥
makes_none bytes base text refusal.TooLong h d = let read = deltas_are_read bytes base text d in never h.0 text read.0 fault.TooLong (sym h.1 ∙ read.2)
makes_none bytes base text refusal.BadWindow h d = h.1 text d
makes_none bytes base text e h d = absurd h

none_of_two : (bytes base : List ℕ) (e : TextRefusal) → MakesNone bytes base e → ((e ≡ refusal.TooLong) × IsPastLimit bytes base) ⊎ ((e ≡ refusal.BadWindow) × (IsPastLimit bytes base → ⊥))
none_of_two bytes base refusal.TooLong h = inl (refl, h)
none_of_two bytes base refusal.BadWindow h = inr (refl, h.0)
none_of_two bytes base e h = absurd h

one_none : (bytes base : List ℕ) (d e : TextRefusal) → MakesNone bytes base d → MakesNone bytes base e → d ≡ e
one_none bytes base d e h k = both (none_of_two bytes base d h) (none_of_two bytes base e k)
  where
    both : ((d ≡ refusal.TooLong) × IsPastLimit bytes base) ⊎ ((d ≡ refusal.BadWindow) × (IsPastLimit bytes base → ⊥)) → ((e ≡ refusal.TooLong) × IsPastLimit bytes base) ⊎ ((e ≡ refusal.BadWindow) × (IsPastLimit bytes base → ⊥)) → d ≡ e
    both (inl a) (inl b) = a.0 ∙ sym b.0
    both (inl a) (inr b) = absurd (b.1 a.1)
    both (inr a) (inl b) = absurd (a.1 b.1)
    both (inr a) (inr b) = a.0 ∙ sym b.0

other_sum : (sum : Option (List ℕ)) (text : List ℕ) (e : TextRefusal) → HasOtherSum sum text e → (e ≡ refusal.BadSum) × (SumsTo sum text → ⊥)
other_sum sum text refusal.BadSum h = (refl, h)
other_sum sum text e h = absurd h

-- ---- a delta over a base

module _ (d : DeltaText) (base : List ℕ) where
  cant_make : (text : List ℕ) (e : TextRefusal) → CantMake d base e → MakesText d base text → ⊥
  cant_make text e (OtherBase h) m = (other_sum d.base_sum base e h).1 m.base_sum
  cant_make text e (NoDelta s h) m = makes_none d.bytes base text e h m.delta
  cant_make text e (OtherText t s i h) m = (other_sum d.sum t e h).1 (subst (SumsTo d.sum) (one_made d.bytes base text t m.delta i) m.sum)

  one_cant : (e f : TextRefusal) → CantMake d base e → CantMake d base f → e ≡ f
  one_cant e f (OtherBase h) (OtherBase k) = (other_sum d.base_sum base e h).0 ∙ sym (other_sum d.base_sum base f k).0
  one_cant e f (OtherBase h) (NoDelta s k) = absurd ((other_sum d.base_sum base e h).1 s)
  one_cant e f (OtherBase h) (OtherText t s i k) = absurd ((other_sum d.base_sum base e h).1 s)
  one_cant e f (NoDelta s h) (OtherBase k) = absurd ((other_sum d.base_sum base f k).1 s)
  one_cant e f (NoDelta s h) (NoDelta z k) = one_none d.bytes base e f h k
  one_cant e f (NoDelta s h) (OtherText t z i k) = absurd (makes_none d.bytes base t e h i)
  one_cant e f (OtherText t s i h) (OtherBase k) = absurd ((other_sum d.base_sum base f k).1 s)
  one_cant e f (OtherText t s i h) (NoDelta z k) = absurd (makes_none d.bytes base t f k i)
  one_cant e f (OtherText t s i h) (OtherText u z j k) = (other_sum d.sum t e h).0 ∙ sym (other_sum d.sum u f k).0

-- ---- a record's delta

abbrev text_in : Result (List ℕ) TextRefusal → List ℕ
text_in (Ok text) = text
text_in (Err e) = []

abbrev refusal_in : Result (List ℕ) TextRefusal → TextRefusal → TextRefusal
refusal_in (Ok text) e = e
refusal_in (Err f) e = f

unfound : (r : Result (List ℕ) TextRefusal) (base : List ℕ) (e : TextRefusal) → r ≡ Err e → r ≡ Ok base → ⊥
unfound (Ok text) base e h k = cc
unfound (Err f) base e h k = cc

module _ (trees : List PathMap) (rs : List NodeRecord) (r : NodeRecord) (d : DeltaText) where
  unmade : (text : List ℕ) (e : TextRefusal) → IsUnmade trees rs r d e → Gives trees rs r d text → ⊥
  unmade text e (NoBase h) g = unfound (base_of trees rs r) g.base e h g.over
  unmade text e (NoText base over h) g = cant_make d base text e h (subst (λ b. MakesText d b text) (ap text_in (sym g.over ∙ over)) g.makes)

  one_unmade : (e f : TextRefusal) → IsUnmade trees rs r d e → IsUnmade trees rs r d f → e ≡ f
  one_unmade e f (NoBase h) (NoBase k) = ap (λ x. refusal_in x e) (sym h ∙ k)
  one_unmade e f (NoBase h) (NoText base over k) = absurd (unfound (base_of trees rs r) base e h over)
  one_unmade e f (NoText base over h) (NoBase k) = absurd (unfound (base_of trees rs r) base f k over)
  one_unmade e f (NoText base over h) (NoText b o k) = one_cant d base e f h (subst (λ b. CantMake d b f) (ap text_in (sym o ∙ over)) k)

-- ---- nodes

module _ (trees : List PathMap) (rs : List NodeRecord) where
  not_both : (r w : NodeRecord) (o : Option DeltaText) (e : TextRefusal) → MatchOption o ⊥ (λ d. IsUnmade trees rs r d e) → MatchOption o (w ≡ r) (λ d. (text : List ℕ) × Gives trees rs r d text × (w ≡ record r { text = Some text })) → ⊥
  not_both r w None e h k = h
  not_both r w (Some d) e h k = unmade trees rs r d k.0 e h k.1

  one_of : (r : NodeRecord) (o : Option DeltaText) (e f : TextRefusal) → MatchOption o ⊥ (λ d. IsUnmade trees rs r d e) → MatchOption o ⊥ (λ d. IsUnmade trees rs r d f) → e ≡ f
  one_of r None e f h k = absurd h
  one_of r (Some d) e f h k = one_unmade trees rs r d e f h k

  none_at : (front rest : List ReadNode) (n : ReadNode) (ws : List NodeRecord) (e : TextRefusal) → CantBeWhole trees rs n e → AreWhole trees rs (front ++ n ∷ rest) ws → ⊥
  none_at [] rest n [] e h a = a
  none_at [] rest n (w ∷ ws) e h a = not_both n.node w n.delta e h a.0
  none_at (m ∷ front) rest n [] e h a = a
  none_at (m ∷ front) rest n (w ∷ ws) e h a = none_at front rest n ws e h a.1

abbrev first_or : ReadNode → List ReadNode → ReadNode
first_or n [] = n
first_or n (m ∷ ns) = m

abbrev behind : List ReadNode → List ReadNode
behind [] = []
behind (n ∷ ns) = ns

module _ (trees : List PathMap) (rs : List NodeRecord) where
  -- a front that is whole doesn't begin with a node that isn't
  stops : (n m : ReadNode) (front : List ReadNode) (ws : List NodeRecord) (e : TextRefusal) → m ≡ n → CantBeWhole trees rs n e → AreWhole trees rs (m ∷ front) ws → ⊥
  stops n m front ws e is h a = none_at trees rs [] front m ws e (subst (λ x. CantBeWhole trees rs x e) (sym is) h) a

  same_cause : (a b : List ReadNode) (x y : ReadNode) (p q : List ReadNode) (v w : List NodeRecord) (d e : TextRefusal) → a ++ x ∷ p ≡ b ++ y ∷ q → AreWhole trees rs a v → AreWhole trees rs b w → CantBeWhole trees rs x d → CantBeWhole trees rs y e → d ≡ e
  same_cause [] [] x y p q v w d e is f g h k = one_of trees rs x.node x.delta d e h (subst (λ z. CantBeWhole trees rs z e) (sym (ap (first_or x) is)) k)
  same_cause [] (m ∷ b) x y p q v w d e is f g h k = absurd (stops x m b w d (sym (ap (first_or x) is)) h g)
  same_cause (m ∷ a) [] x y p q v w d e is f g h k = absurd (stops y m a v e (ap (first_or y) is) k f)
  same_cause (m ∷ a) (n ∷ b) x y p q [] w d e is f g h k = absurd f
  same_cause (m ∷ a) (n ∷ b) x y p q (s ∷ v) [] d e is f g h k = absurd g
  same_cause (m ∷ a) (n ∷ b) x y p q (s ∷ v) (t ∷ w) d e is f g h k = same_cause a b x y p q v w d e (ap behind is) f.1 g.1 h k

pub none_whole : (trees : List PathMap) (rs : List NodeRecord) (ns : List ReadNode) (ws : List NodeRecord) (e : TextRefusal) → IsFirstUnmade trees rs ns e → AreWhole trees rs ns ws → ⊥
none_whole trees rs ns ws e u a = none_at trees rs u.front u.rest u.node ws e u.unmade (subst (λ x. AreWhole trees rs x ws) u.joined a)

pub one_cause : (trees : List PathMap) (rs : List NodeRecord) (ns : List ReadNode) (d e : TextRefusal) → IsFirstUnmade trees rs ns d → IsFirstUnmade trees rs ns e → d ≡ e
one_cause trees rs ns d e u v = same_cause trees rs u.front v.front u.node v.node u.rest v.rest u.made v.made d e (sym u.joined ∙ v.joined) u.whole v.whole u.unmade v.unmade
