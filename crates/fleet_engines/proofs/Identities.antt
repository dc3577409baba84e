-- The identity that records tell.
use Rattle.std.proofs.Common.{◌≡◌, ℕ, ◌&&◌, Bool, true, false, List, [], ◌∷◌, Option, Some, None, is_none, refl, sym, ap, ◌∙◌}
use Rattle.std.specs.Bool.{if◌then◌else◌}
use Rattle.dump_text.specs.declared.record.DumpRecord.{DumpRecord}
use Rattle.dump_text.specs.declared.record.DumpRecord.TheVariants.{Identity, Revision, Node, DeltaNode}
use Rattle.fleet_engines.specs.Grouping.{identity_of}
use Rattle.whole_texts.specs.declared.read_node.ReadNode.{ReadNode}
use Rattle.fleet_engines.specs.Revisions.{plain, Rev, Told, untold, is_lone, no_revision, revision_0, a_revision, Closes, TakesNode, Tells}

-- the identity behind records: where no revision has begun, theirs count
abbrev pub counted : List DumpRecord → Told → Option (List ℕ)
counted rs t = if is_lone t.trees && is_none t.last then identity_of t.identity rs else t.identity

both : (b : Bool) (x : Option (List ℕ)) → (if b then x else x) ≡ x
both true x = refl
both false x = refl

begun : (b : Bool) (x y : Option (List ℕ)) → (if b && false then x else y) ≡ y
begun true x y = refl
begun false x y = refl

closed : (t u : Told) (out : List Rev) → Closes t u out → u.identity ≡ t.identity
closed t u out (no_revision e d o) = ap (λ x. x.identity) d
closed t u out (revision_0 r e z d o) = ap (λ x. x.identity) d
closed t u out (a_revision r set tree e z mk d o) = ap (λ x. x.identity) d

taken : (t : Told) (id : List ℕ) (rs : List DumpRecord) (b : Bool) → (is_lone t.trees && is_none t.last) ≡ b → counted rs (if b then record t { identity = Some id } else t) ≡ (if b then identity_of (Some id) rs else t.identity)
taken t id rs true e = ap (λ c. if c then identity_of (Some id) rs else Some id) e
taken t id rs false e = ap (λ c. if c then identity_of t.identity rs else t.identity) e

-- behind a node none counts
behind_node : (rs : List DumpRecord) (t m : Told) (n : ReadNode) (out : List Rev) → TakesNode t n m out → counted rs m ≡ t.identity
behind_node rs t m n out p = ap (counted rs) p.3 ∙ begun (is_lone t.trees) (identity_of t.identity rs) t.identity

told : (rs : List DumpRecord) (t v : Told) (out : List Rev) → Tells t rs v out → v.identity ≡ counted rs t
told [] t v out p = ap (λ x. x.identity) p.0 ∙ sym (both (is_lone t.trees && is_none t.last) t.identity)
told (Identity id ∷ rs) t v out p = told rs p.0 v p.2 p.4 ∙ ap (counted rs) p.3.0 ∙ taken t id rs (is_lone t.trees && is_none t.last) refl
told (Revision n props ∷ rs) t v out p =
    let w = p.3.0 in
    told rs p.0 v p.2 p.4
    ∙ ap (counted rs) p.3.2
    ∙ begun (is_lone w.trees) (identity_of w.identity rs) w.identity
    ∙ closed t w p.1 p.3.1
    ∙ sym (both (is_lone t.trees && is_none t.last) t.identity)
told (Node x ∷ rs) t v out p = told rs p.0 v p.2 p.4 ∙ behind_node rs t p.0 (plain x) p.1 p.3 ∙ sym (both (is_lone t.trees && is_none t.last) t.identity)
told (DeltaNode x d ∷ rs) t v out p =
    told rs p.0 v p.2 p.4 ∙ behind_node rs t p.0 (record { node = x; delta = Some d }) p.1 p.3 ∙ sym (both (is_lone t.trees && is_none t.last) t.identity)

-- the identity told is the last one before the first other record
pub identity_told : (rs : List DumpRecord) (t all : Told) (out newest : List Rev) → Tells untold rs t out → Closes t all newest → all.identity ≡ identity_of None rs
identity_told rs t all out newest p c = closed t all newest c ∙ told rs untold t out p
