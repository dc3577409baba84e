-- Records that are taken one after another are revisions with their nodes.
use Rattle.std.proofs.Common.{◌≡◌, ℕ, ◌+◌, ◌==◌, ◌&&◌, not, suc, Bool, true, false, cond, List, [], ◌∷◌, ◌++◌, map, length, Option, Some, None, is_none, refl, sym, ap, subst, ◌∙◌, append_assoc, arith, length-append}
use Rattle.std.specs.Bool.{if◌then◌else◌}
use Rattle.std.specs.List.{filter, flat_map}
use Rattle.std.proofs.lemmas.Bool.{ne_eqb, false≢true, true≢false, eqb-true}
use Rattle.std.proofs.lemmas.List.{map-append}
use Rattle.node_base.specs.Props.{PropMap}
use Rattle.node_base.specs.Tree.{PathMap}
use Rattle.dump_text.specs.declared.record.DeltaText.{DeltaText}
use Rattle.dump_text.specs.declared.record.NodeRecord.{NodeRecord}
use Rattle.dump_text.specs.declared.record.DumpRecord.{DumpRecord}
use Rattle.dump_text.specs.declared.record.DumpRecord.TheVariants.{Identity, Revision, Node, DeltaNode}
use Rattle.whole_texts.specs.declared.read_node.ReadNode.{ReadNode}
use Rattle.fleet_engines.specs.Grouping.{is_no_identity, with_delta, record_of_node, records_of_rev, AreZero, zero_of, MakeTrees, RevisionsAreGrouped}
use Rattle.fleet_engines.specs.Revisions.{plain, Rev, Told, untold, is_lone, is_past_zero, no_revision, revision_0, a_revision, Closes, TakesNode, Tells}
use Rattle.fleet_engines.proofs.Identities.{identity_told}
use Rattle.fleet_engines.proofs.Telling.{takes_count}

others : List DumpRecord → List DumpRecord
others = filter is_no_identity

-- the records of the revision that is still read
pending : Option Rev → List DumpRecord
pending None = []
pending (Some r) = records_of_rev r

-- a revision 0 that is still read has no nodes
Quiet : Option Rev → Type 0
Quiet None = Unit {0}
Quiet (Some r) = is_past_zero (Some r) ≡ false → r.nodes ≡ []

record Groups (rs : List DumpRecord) (last : Option Rev) (trees : List PathMap) (zero : PropMap) (all : Told) (out : List Rev) : Type 0 where
  pub zeros : List Rev
  pub revisions : List Rev
  pub records : pending last ++ others rs ≡ flat_map records_of_rev (zeros ++ revisions)
  pub entries : AreZero zeros
  pub only : is_lone trees ≡ false → zeros ≡ []
  pub props : all.zero ≡ zero_of zero zeros
  pub made : MakeTrees trees revisions all.trees out

zero_number : (lone : Bool) (n : ℕ) → (lone && n == 0) ≡ true → (lone ≡ true) × (n ≡ 0)
zero_number true n e = (refl, eqb-true n 0 e)
zero_number false n e = absurd (false≢true e)

zero_nodes : (r : Rev) → r.number ≡ 0 → Quiet (Some r) → r.nodes ≡ []
unfolding Quiet
zero_nodes r e q = q (ap (λ n. not (n == 0)) e)

quiet_of : (a b : Option Rev) → a ≡ b → Quiet a → Quiet b
quiet_of a b e q = subst Quiet e q

-- the end
last_groups : (t u : Told) (newest : List Rev) → Quiet t.last → Closes t u newest → Groups [] t.last t.trees t.zero u newest
unfolding pending others
last_groups t u newest q (no_revision e d o) = record {
  zeros = [];
  revisions = [];
  records = ap (λ l. pending l ++ []) e;
  entries = tt;
  only = λ _. refl;
  props = ap (λ x. x.zero) d;
  made = (ap (λ x. x.trees) d, o);
}
last_groups t u newest q (revision_0 r e z d o) =
    let n = zero_number (is_lone t.trees) r.number z in
    record {
      zeros = r ∷ [];
      revisions = [];
      records = ap (λ l. pending l ++ []) e;
      entries = (n.1, zero_nodes r n.1 (quiet_of t.last (Some r) e q), tt);
      only = λ f. absurd (true≢false (sym n.0 ∙ f));
      props = ap (λ x. x.zero) d;
      made = (ap (λ x. x.trees) d, o);
    }
last_groups t u newest q (a_revision r set tree e z mk d o) = record {
  zeros = [];
  revisions = r ∷ [];
  records = ap (λ l. pending l ++ []) e;
  entries = tt;
  only = λ _. refl;
  props = ap (λ x. x.zero) d;
  made = (set, tree, [], mk, (ap (λ x. x.trees) d, refl), o);
}

-- one revision more before others
next_groups : (t m all : Told) (n : ℕ) (props : PropMap) (rs : List DumpRecord) (first rest out : List Rev) (k : ℕ) → Quiet t.last → length t.trees ≡ suc k → Closes t m first → out ≡ first ++ rest
    → Groups rs (Some (record { number = n; props = props; nodes = [] })) m.trees m.zero all rest → Groups (Revision n props ∷ rs) t.last t.trees t.zero all out
unfolding pending others
next_groups t m all n props rs first rest out k q len (no_revision e d o) w g = record {
  zeros = g.zeros;
  revisions = g.revisions;
  records = ap (λ l. pending l ++ (Revision n props ∷ others rs)) e ∙ g.records;
  entries = g.entries;
  only = λ f. g.only (ap (λ x. is_lone x.trees) d ∙ f);
  props = g.props ∙ ap (λ x. zero_of x.zero g.zeros) d;
  made = subst (λ o'. MakeTrees t.trees g.revisions all.trees o') (sym (w ∙ ap (λ f. f ++ rest) o)) (subst (λ x. MakeTrees x g.revisions all.trees rest) (ap (λ x. x.trees) d) g.made);
}
next_groups t m all n props rs first rest out k q len (revision_0 r e z d o) w g =
    let y = zero_number (is_lone t.trees) r.number z in
    record {
      zeros = r ∷ g.zeros;
      revisions = g.revisions;
      records = ap (λ l. pending l ++ (Revision n props ∷ others rs)) e ∙ ap (λ l. records_of_rev r ++ l) g.records;
      entries = (y.1, zero_nodes r y.1 (quiet_of t.last (Some r) e q), g.entries);
      only = λ f. absurd (true≢false (sym y.0 ∙ f));
      props = g.props ∙ ap (λ x. zero_of x.zero g.zeros) d;
      made = subst (λ o'. MakeTrees t.trees g.revisions all.trees o') (sym (w ∙ ap (λ f. f ++ rest) o)) (subst (λ x. MakeTrees x g.revisions all.trees rest) (ap (λ x. x.trees) d) g.made);
    }
next_groups t m all n props rs first rest out k q len (a_revision r set tree e z mk d o) w g =
    let a : length m.trees ≡ length (t.trees ++ tree ∷ []) = ap (λ x. length x.trees) d in
    let far : is_lone m.trees ≡ false = ne_eqb (length m.trees) 1 (λ f. omega (arith, len, a, f, length-append t.trees (tree ∷ []))) in
    let none : g.zeros ≡ [] = g.only far in
    record {
      zeros = [];
      revisions = r ∷ g.revisions;
      records = ap (λ l. pending l ++ (Revision n props ∷ others rs)) e ∙ ap (λ l. records_of_rev r ++ l) (g.records ∙ ap (λ zs. flat_map records_of_rev (zs ++ g.revisions)) none);
      entries = tt;
      only = λ _. refl;
      props = g.props ∙ ap (λ zs. zero_of m.zero zs) none ∙ ap (λ x. x.zero) d;
      made = (set, tree, rest, mk, subst (λ x. MakeTrees x g.revisions all.trees rest) (ap (λ x. x.trees) d) g.made, w ∙ ap (λ f. f ++ rest) o);
    }

-- an identity changes no revision
record Same (t m : Told) : Type 0 where
  pub last : m.last ≡ t.last
  pub trees : m.trees ≡ t.trees
  pub zero : m.zero ≡ t.zero

identified_same : (t : Told) (id : List ℕ) (b : Bool) → Same t (if b then record t { identity = Some id } else t)
identified_same t id true = record { last = refl; trees = refl; zero = refl }
identified_same t id false = record { last = refl; trees = refl; zero = refl }

same_groups : (t m all : Told) (id : List ℕ) (rs : List DumpRecord) (rest out : List Rev) → Same t m → out ≡ rest → Groups rs m.last m.trees m.zero all rest → Groups (Identity id ∷ rs) t.last t.trees t.zero all out
unfolding pending others
same_groups t m all id rs rest out s w g = record {
  zeros = g.zeros;
  revisions = g.revisions;
  records = ap (λ l. pending l ++ others rs) (sym s.last) ∙ g.records;
  entries = g.entries;
  only = λ f. g.only (ap is_lone s.trees ∙ f);
  props = g.props ∙ ap (λ z. zero_of z g.zeros) s.zero;
  made = subst (λ o'. MakeTrees t.trees g.revisions all.trees o') (sym w) (subst (λ x. MakeTrees x g.revisions all.trees rest) s.trees g.made);
}

-- a node's record is no identity
pub no_identity : (x : NodeRecord) (d : Option DeltaText) → is_no_identity (with_delta x d) ≡ true
no_identity x None = refl
no_identity x (Some d) = refl

-- one node more
node_groups : (t m all : Told) (x : ReadNode) (r : Rev) (rs : List DumpRecord) (rest out : List Rev) → t.last ≡ Some r → m ≡ record t { last = Some (record r { nodes = r.nodes ++ x ∷ [] }) } → out ≡ rest
    → Groups rs m.last m.trees m.zero all rest → Groups (record_of_node x ∷ rs) t.last t.trees t.zero all out
unfolding pending others
node_groups t m all x r rs rest out e d w g = record {
  zeros = g.zeros;
  revisions = g.revisions;
  records =
      ap (λ l. pending l ++ others (record_of_node x ∷ rs)) e
      ∙ ap (λ b. records_of_rev r ++ cond b (record_of_node x ∷ others rs) (others rs)) (no_identity x.node x.delta)
      ∙ ap (λ l. Revision r.number r.props ∷ l) (sym (append_assoc (map record_of_node r.nodes) (record_of_node x ∷ []) (others rs)) ∙ ap (λ l. l ++ others rs) (sym (map-append record_of_node r.nodes (x ∷ []))))
      ∙ ap (λ y. pending y.last ++ others rs) (sym d)
      ∙ g.records;
  entries = g.entries;
  only = λ f. g.only (ap (λ y. is_lone y.trees) d ∙ f);
  props = g.props ∙ ap (λ y. zero_of y.zero g.zeros) d;
  made = subst (λ o'. MakeTrees t.trees g.revisions all.trees o') (sym w) (subst (λ y. MakeTrees y g.revisions all.trees rest) (ap (λ y. y.trees) d) g.made);
}

quiet_new : (n : ℕ) (props : PropMap) → Quiet (Some (record { number = n; props = props; nodes = [] }))
unfolding Quiet
quiet_new n props h = refl

quiet_more : (r : Rev) (x : ReadNode) → is_past_zero (Some r) ≡ true → Quiet (Some (record r { nodes = r.nodes ++ x ∷ [] }))
unfolding Quiet
quiet_more r x p h = absurd (true≢false (sym p ∙ h))

quiet_behind : (t m : Told) (x : ReadNode) (first : List Rev) → TakesNode t x m first → Quiet m.last
quiet_behind t m x first p =
    quiet_of (Some (record p.0 { nodes = p.0.nodes ++ x ∷ [] })) m.last (ap (λ y. y.last) (sym p.3)) (quiet_more p.0 x (ap is_past_zero (sym p.1) ∙ p.2))

node_taken : (t m all : Told) (x : ReadNode) (rs : List DumpRecord) (first rest out newest : List Rev) → TakesNode t x m first → out ≡ first ++ rest → Groups rs m.last m.trees m.zero all (rest ++ newest) → Groups (record_of_node x ∷ rs) t.last t.trees t.zero all (out ++ newest)
node_taken t m all x rs first rest out newest p w g = node_groups t m all x p.0 rs (rest ++ newest) (out ++ newest) p.1 p.3 (ap (λ o. o ++ newest) (w ∙ ap (λ f. f ++ rest) p.4)) g

groups : (rs : List DumpRecord) (t v all : Told) (out newest : List Rev) (k : ℕ) → Quiet t.last → length t.trees ≡ suc k → Tells t rs v out → Closes v all newest → Groups rs t.last t.trees t.zero all (out ++ newest)
groups [] t v all out newest k q len p c =
    subst (λ o. Groups [] t.last t.trees t.zero all (o ++ newest)) (sym p.1) (last_groups t all newest q (subst (λ x. Closes x all newest) p.0 c))
groups (Identity id ∷ rs) t v all out newest k q len p c =
    let s = subst (λ x. Same t x) (sym p.3.0) (identified_same t id (is_lone t.trees && is_none t.last)) in
    same_groups t p.0 all id rs (p.2 ++ newest) (out ++ newest) s (ap (λ o. o ++ newest) (p.5 ∙ ap (λ f. f ++ p.2) p.3.1))
    (groups rs p.0 v all p.2 newest k (quiet_of t.last p.0.last (sym s.last) q) (ap length s.trees ∙ len) p.4 c)
groups (Revision n props ∷ rs) t v all out newest k q len p c =
    let new : Rev = record { number = n; props = props; nodes = [] } in
    let w = p.3.0 in
    let a : length p.0.trees ≡ length t.trees + length p.1 = takes_count t p.0 (Revision n props) p.1 p.3 in
    let more : length p.0.trees ≡ suc (k + length p.1) = omega (arith, a, len) in
    next_groups t w all n props rs p.1 (p.2 ++ newest) (out ++ newest) k q len p.3.1 (ap (λ o. o ++ newest) p.5 ∙ append_assoc p.1 p.2 newest)
    (subst (λ x. Groups rs x.last x.trees x.zero all (p.2 ++ newest)) p.3.2
    (groups rs p.0 v all p.2 newest (k + length p.1) (quiet_of (Some new) p.0.last (ap (λ x. x.last) (sym p.3.2)) (quiet_new n props)) more p.4 c))
groups (Node x ∷ rs) t v all out newest k q len p c =
    node_taken t p.0 all (plain x) rs p.1 p.2 out newest p.3 p.5 (groups rs p.0 v all p.2 newest k (quiet_behind t p.0 (plain x) p.1 p.3) (ap (λ y. length y.trees) p.3.3 ∙ len) p.4 c)
groups (DeltaNode x d ∷ rs) t v all out newest k q len p c =
    let n : ReadNode = record { node = x; delta = Some d } in
    node_taken t p.0 all n rs p.1 p.2 out newest p.3 p.5 (groups rs p.0 v all p.2 newest k (quiet_behind t p.0 n p.1 p.3) (ap (λ y. length y.trees) p.3.3 ∙ len) p.4 c)

quiet_none : Quiet None
unfolding Quiet
quiet_none = tt

pub revisions_are_grouped : RevisionsAreGrouped
unfolding pending others
revisions_are_grouped rs t all out newest p c =
    let g = groups rs untold t all out newest 0 quiet_none refl p c in
    record { zeros = g.zeros; revisions = g.revisions; records = g.records; identity = identity_told rs t all out newest p c; entries = g.entries; props = g.props; trees = g.made }
