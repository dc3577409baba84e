-- What is due of the canonical spelling, record by record.
use Rattle.std.proofs.Common.{◌≡◌, ℕ, ◌+◌, ◌==◌, ◌&&◌, ◌||◌, not, suc, Bool, true, false, List, [], ◌∷◌, ◌++◌, length, Option, Some, None, is_none, refl, sym, ap, ◌∙◌, append_assoc, arith, length-append, inl, inr}
use Rattle.std.proofs.Common.{subst}
use Rattle.std.proofs.KnownBytes.{Appends-trans}
use Rattle.std.specs.Io.KnownBytes.{Appends}
use Rattle.std.specs.Bool.{if◌then◌else◌}
use Rattle.std.specs.List.{flat_map}
use Rattle.std.proofs.Math.Bool.{or-true}
use Rattle.std.proofs.lemmas.Bool.{ne_eqb, false≢true, true≢false, cases_Bool}
use Rattle.std.proofs.lemmas.Grind.{flat_map-append}
use Rattle.dump_text.specs.declared.record.DumpRecord.{DumpRecord}
use Rattle.dump_text.specs.declared.record.DumpRecord.TheVariants.{Identity, Revision, Node, DeltaNode}
use Rattle.fleet_engines.specs.declared.product.Product.{Product}
use Rattle.fleet_engines.specs.declared.product.Product.TheVariants.{List as ListIt, Canon}
use Rattle.whole_texts.specs.declared.read_node.ReadNode.{ReadNode}
use Rattle.fleet_engines.specs.Revisions.{plain, Rev, Told, untold, is_lone, is_past_zero, no_revision, revision_0, a_revision, Closes, Takes, TakesNode}
use Rattle.fleet_engines.proofs.Telling.{tells_one, tells_count}
use Rattle.fleet_engines.specs.Runs.{adds, canon_of, due, ending, has_begun, head_of, whole, Stands}

-- once another revision has begun, an identity doesn't count
same_told : (lone : Bool) (last : Option Rev) (x y : Told) → (not lone || is_past_zero last) ≡ true → (if lone && is_none last then x else y) ≡ y
same_told false last x y h = refl
same_told true None x y h = absurd (false≢true h)
same_told true (Some r) x y h = refl

-- revision 0 before any other, and no other has begun
not_past : (lone zero : Bool) → (lone && zero) ≡ true → (not lone || not zero) ≡ true → ⊥
not_past true true e h = false≢true h
not_past true false e h = false≢true e
not_past false zero e h = false≢true e

is_past : (lone zero : Bool) → (lone && zero) ≡ false → (not lone || not zero) ≡ false → ⊥
is_past true true e h = true≢false e
is_past true false e h = true≢false h
is_past false zero e h = true≢false h

not_lone : (lone : Bool) → (not lone || false) ≡ true → not lone ≡ true
not_lone true h = h
not_lone false h = h

-- a tree more isn't the only one
two_trees : (n m : ℕ) (k : ℕ) → n ≡ suc m → k ≡ n + 1 → (k == 1) ≡ false
two_trees n m k e d = ne_eqb k 1 (λ f. omega (arith, e, d, f))

-- what began stays so
pub record Begun (t u : Told) : Type 0 where
  pub begun : has_begun u ≡ true
  pub head : head_of u ≡ head_of t

begun_after_close : (t m u : Told) (out : List Rev) (new : Rev) (k : ℕ) → length t.trees ≡ suc k → Closes t m out → u ≡ record m { last = Some new } → has_begun t ≡ true → Begun t u
begun_after_close t m u out new k n (no_revision e d o) w h =
    let far : not (is_lone t.trees) ≡ true = not_lone (is_lone t.trees) (ap (λ l. not (is_lone t.trees) || is_past_zero l) (sym e) ∙ h) in
    record {
      begun = ap has_begun w ∙ ap (λ x. not (is_lone x.trees) || is_past_zero (Some new)) d ∙ ap (λ b. b || is_past_zero (Some new)) far;
      head = ap head_of w ∙ ap head_of d;
    }
begun_after_close t m u out new k n (revision_0 r e z d o) w h =
    absurd (not_past (is_lone t.trees) (r.number == 0) z (ap (λ l. not (is_lone t.trees) || is_past_zero l) (sym e) ∙ h))
begun_after_close t m u out new k n (a_revision r set tree e z mk d o) w h =
    let far : is_lone (t.trees ++ tree ∷ []) ≡ false = two_trees (length t.trees) k (length (t.trees ++ tree ∷ [])) n (length-append t.trees (tree ∷ [])) in
    record {
      begun = ap has_begun w ∙ ap (λ x. not (is_lone x.trees) || is_past_zero (Some new)) d ∙ ap (λ b. not b || is_past_zero (Some new)) far;
      head = ap head_of w ∙ ap head_of d;
    }

begun_with_node : (t u : Told) (n : ReadNode) (out : List Rev) → TakesNode t n u out → has_begun t ≡ true → Begun t u
begun_with_node t u n out p h =
    let past : is_past_zero (Some p.0) ≡ true = ap is_past_zero (sym p.1) ∙ p.2 in
    record { begun = ap has_begun p.3 ∙ ap (λ b. not (is_lone t.trees) || b) past ∙ or-true (not (is_lone t.trees)); head = ap head_of p.3 }

begun_stays : (t u : Told) (r : DumpRecord) (out : List Rev) (k : ℕ) → length t.trees ≡ suc k → Takes t r u out → has_begun t ≡ true → Begun t u
begun_stays t u (Identity id) out k n p h =
    let same : u ≡ t = p.0 ∙ same_told (is_lone t.trees) t.last (record t { identity = Some id }) t h in
    record { begun = ap has_begun same ∙ h; head = ap head_of same }
begun_stays t u (Revision number props) out k n p h = begun_after_close t p.0 u out (record { number = number; props = props; nodes = [] }) k n p.1 p.2 h
begun_stays t u (Node x) out k n p h = begun_with_node t u (plain x) out p h
begun_stays t u (DeltaNode x d) out k n p h = begun_with_node t u (record { node = x; delta = Some d }) out p h

-- before that no revision is whole
none_closed : (t m : Told) (out : List Rev) → Closes t m out → has_begun t ≡ false → out ≡ []
none_closed t m out (no_revision e d o) h = o
none_closed t m out (revision_0 r e z d o) h = o
none_closed t m out (a_revision r set tree e z mk d o) h = absurd (is_past (is_lone t.trees) (r.number == 0) z (ap (λ l. not (is_lone t.trees) || is_past_zero l) (sym e) ∙ h))

none_taken : (t u : Told) (r : DumpRecord) (out : List Rev) → Takes t r u out → has_begun t ≡ false → out ≡ []
none_taken t u (Identity id) out p h = p.1
none_taken t u (Revision n props) out p h = none_closed t p.0 out p.1 h
none_taken t u (Node x) out p h = p.4
none_taken t u (DeltaNode x d) out p h = p.4

none_before : (n : ℕ) (last : Option Rev) (outs : List Rev) → n ≡ suc (length outs) → (not (n == 1) || is_past_zero last) ≡ false → outs ≡ []
none_before n last [] e h = refl
none_before n last (x ∷ xs) e h =
    absurd (true≢false (sym (ap (λ b. not b || is_past_zero last) (ne_eqb n 1 (λ f. omega (arith, e, f)))) ∙ h))

begun_now : (b : Bool) (head : List ℕ) → (if b then head ++ [] else []) ≡ (if b then head else []) ++ []
begun_now true head = refl
begun_now false head = refl

pub canon_step : (t u : Told) (r : DumpRecord) (outs out : List Rev) → length t.trees ≡ suc (length outs) → Takes t r u out → due Canon u (outs ++ out) ≡ due Canon t outs ++ adds Canon t u out
canon_step t u r outs out n p = elim (cases_Bool (has_begun t)) [
  | inl h ↦
      let g = begun_stays t u r out (length outs) n p h in
      ap (λ b. if b then head_of u ++ flat_map canon_of (outs ++ out) else []) g.begun
      ∙ ap (λ x. x ++ flat_map canon_of (outs ++ out)) g.head
      ∙ ap (λ x. head_of t ++ x) (flat_map-append canon_of outs out)
      ∙ sym (append_assoc (head_of t) (flat_map canon_of outs) (flat_map canon_of out))
      ∙ ap (λ b. (if b then head_of t ++ flat_map canon_of outs else []) ++ ((if not b && has_begun u then head_of u else []) ++ flat_map canon_of out)) (sym h)
  | inr h ↦
      let a : outs ≡ [] = none_before (length t.trees) t.last outs n h in
      let b : out ≡ [] = none_taken t u r out p h in
      ap (λ os. if has_begun u then head_of u ++ flat_map canon_of os else []) (ap (λ x. x ++ out) a ∙ b)
      ∙ begun_now (has_begun u) (head_of u)
      ∙ ap (λ os. (if has_begun u then head_of u else []) ++ flat_map canon_of os) (sym b)
      ∙ ap (λ v. (if v then head_of t ++ flat_map canon_of outs else []) ++ ((if not v && has_begun u then head_of u else []) ++ flat_map canon_of out)) (sym h)
]

-- one tree more than revisions that are whole
pub count : (c : Product) (rs : List DumpRecord) (t : Told) (start now : Option (List ℕ)) (s : Stands c rs t start now) → length t.trees ≡ suc (length s.out)
count c rs t start now s = let e : length t.trees ≡ 1 + length s.out = tells_count untold t rs s.out s.tells in omega (arith, e)

pub canon_stands : (rs : List DumpRecord) (t u : Told) (r : DumpRecord) (out : List Rev) (start now later : Option (List ℕ)) → Takes t r u out → Appends now later (adds Canon t u out) → Stands Canon rs t start now → Stands Canon (rs ++ r ∷ []) u start later
canon_stands rs t u r out start now later p w s = record {
  out = s.out ++ out;
  tells = tells_one untold t u rs r s.out out s.tells p;
  written = subst (Appends start later) (sym (canon_step t u r s.out out (count Canon rs t start now s) p)) (Appends-trans start now later (due Canon t s.out) (adds Canon t u out) s.written w);
}

pub list_stands : (rs : List DumpRecord) (t u : Told) (r : DumpRecord) (out : List Rev) (start now : Option (List ℕ)) → Takes t r u out → Stands ListIt rs t start now → Stands ListIt (rs ++ r ∷ []) u start now
list_stands rs t u r out start now p s = record { out = s.out ++ out; tells = tells_one untold t u rs r s.out out s.tells p; written = s.written }

-- the head isn't changed by the last revision
head_kept : (t u : Told) (newest : List Rev) → Closes t u newest → has_begun t ≡ true → head_of u ≡ head_of t
head_kept t u newest (no_revision e d o) h = ap head_of d
head_kept t u newest (revision_0 r e z d o) h = absurd (not_past (is_lone t.trees) (r.number == 0) z (ap (λ l. not (is_lone t.trees) || is_past_zero l) (sym e) ∙ h))
head_kept t u newest (a_revision r set tree e z mk d o) h = ap head_of d

canon_end : (t u : Told) (outs newest : List Rev) → length t.trees ≡ suc (length outs) → Closes t u newest → whole Canon u (outs ++ newest) ≡ due Canon t outs ++ ending Canon t u newest
canon_end t u outs newest n p = elim (cases_Bool (has_begun t)) [
  | inl h ↦
      ap (λ x. x ++ flat_map canon_of (outs ++ newest)) (head_kept t u newest p h)
      ∙ ap (λ x. head_of t ++ x) (flat_map-append canon_of outs newest)
      ∙ sym (append_assoc (head_of t) (flat_map canon_of outs) (flat_map canon_of newest))
      ∙ ap (λ b. (if b then head_of t ++ flat_map canon_of outs else []) ++ ((if not b then head_of u else []) ++ flat_map canon_of newest)) (sym h)
  | inr h ↦
      let a : outs ≡ [] = none_before (length t.trees) t.last outs n h in
      let b : newest ≡ [] = none_closed t u newest p h in
      ap (λ os. head_of u ++ flat_map canon_of os) (ap (λ x. x ++ newest) a)
      ∙ ap (λ v. (if v then head_of t ++ flat_map canon_of outs else []) ++ ((if not v then head_of u else []) ++ flat_map canon_of newest)) (sym h)
]

pub canon_ends : (rs : List DumpRecord) (t u : Told) (newest : List Rev) (start now later : Option (List ℕ)) → Closes t u newest → Appends now later (ending Canon t u newest) → (s : Stands Canon rs t start now) → Appends start later (whole Canon u (s.out ++ newest))
canon_ends rs t u newest start now later p w s = subst (Appends start later) (sym (canon_end t u s.out newest (count Canon rs t start now s) p)) (Appends-trans start now later (due Canon t s.out) (ending Canon t u newest) s.written w)

pub due_written : (now later : Option (List ℕ)) (head rest : List ℕ) (is_due due : Bool) → is_due ≡ due → Appends now later ((if is_due then head else []) ++ rest) → Appends now later ((if due then head else []) ++ rest)
due_written now later head rest is_due due e p = subst (λ v. Appends now later ((if v then head else []) ++ rest)) e p
