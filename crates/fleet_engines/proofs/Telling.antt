-- Records one after another.
use Rattle.std.proofs.Common.{◌≡◌, ℕ, ◌+◌, ◌&&◌, true, false, List, [], ◌∷◌, ◌++◌, length, Some, is_none, refl, sym, ap, ◌∙◌, append_assoc, append-nil, arith, length-append}
use Rattle.std.specs.Bool.{if◌then◌else◌}
use Rattle.dump_text.specs.declared.record.DumpRecord.{DumpRecord}
use Rattle.dump_text.specs.declared.record.DumpRecord.TheVariants.{Identity, Revision, Node, DeltaNode}
use Rattle.whole_texts.specs.declared.read_node.ReadNode.{ReadNode}
use Rattle.fleet_engines.specs.Revisions.{plain, Rev, Told, is_lone, identified, no_revision, revision_0, a_revision, Closes, Takes, TakesNode, Tells}

-- one record more
pub tells_one : (t m u : Told) (rs : List DumpRecord) (r : DumpRecord) (out more : List Rev) → Tells t rs m out → Takes m r u more → Tells t (rs ++ r ∷ []) u (out ++ more)
tells_one t m u [] r out more (a, b) k = (u, more, [], rw (← a) k, (refl, refl), ap (λ x. x ++ more) b ∙ sym (append-nil more))
tells_one t m u (q ∷ rs) r out more p k =
    (p.0, p.1, p.2 ++ more, p.3, tells_one p.0 m u rs r p.2 more p.4 k, ap (λ x. x ++ more) p.5 ∙ append_assoc p.1 p.2 more)

identified_trees : (t : Told) (id : List ℕ) → length (identified t id).trees ≡ length t.trees
identified_trees t id = elim (is_lone t.trees && is_none t.last) as (λ b. length (if b then record t { identity = Some id } else t).trees ≡ length t.trees) [ true ↦ refl | false ↦ refl ]

-- a tree for each revision that is whole
closes_count : (t u : Told) (out : List Rev) → Closes t u out → length u.trees ≡ length t.trees + length out
closes_count t u out (no_revision e d o) =
    let a : length u.trees ≡ length t.trees = ap (λ x. length x.trees) d in
    let b : length out ≡ 0 = ap length o in
    omega (arith, a, b)
closes_count t u out (revision_0 r e z d o) =
    let a : length u.trees ≡ length t.trees = ap (λ x. length x.trees) d in
    let b : length out ≡ 0 = ap length o in
    omega (arith, a, b)
closes_count t u out (a_revision r set tree e z m d o) =
    let a : length u.trees ≡ length (t.trees ++ tree ∷ []) = ap (λ x. length x.trees) d in
    let b : length out ≡ 1 = ap length o in
    omega (arith, a, b, length-append t.trees (tree ∷ []))

node_count : (t u : Told) (n : ReadNode) (out : List Rev) → TakesNode t n u out → length u.trees ≡ length t.trees + length out
node_count t u n out p =
    let a : length u.trees ≡ length t.trees = ap (λ x. length x.trees) p.3 in
    let b : length out ≡ 0 = ap length p.4 in
    omega (arith, a, b)

pub takes_count : (t u : Told) (r : DumpRecord) (out : List Rev) → Takes t r u out → length u.trees ≡ length t.trees + length out
takes_count t u (Identity id) out p =
    let a : length u.trees ≡ length t.trees = ap (λ x. length x.trees) p.0 ∙ identified_trees t id in
    let b : length out ≡ 0 = ap length p.1 in
    omega (arith, a, b)
takes_count t u (Revision n props) out p = ap (λ x. length x.trees) p.2 ∙ closes_count t p.0 out p.1
takes_count t u (Node x) out p = node_count t u (plain x) out p
takes_count t u (DeltaNode x d) out p = node_count t u (record { node = x; delta = Some d }) out p

pub tells_count : (t u : Told) (rs : List DumpRecord) (out : List Rev) → Tells t rs u out → length u.trees ≡ length t.trees + length out
tells_count t u [] out p =
    let a : length u.trees ≡ length t.trees = ap (λ x. length x.trees) p.0 in
    let b : length out ≡ 0 = ap length p.1 in
    omega (arith, a, b)
tells_count t u (r ∷ rs) out p =
    let a : length p.0.trees ≡ length t.trees + length p.1 = takes_count t p.0 r p.1 p.3 in
    let b : length u.trees ≡ length p.0.trees + length p.2 = tells_count p.0 u rs p.2 p.4 in
    let d : length out ≡ length (p.1 ++ p.2) = ap length p.5 in
    omega (arith, a, b, d, length-append p.1 p.2)
