-- The tests of texts and properties, and that what they compare is equal.
use Rattle.std.proofs.Common.{◌≡◌, Bool, true, false, ◌&&◌, ◌↔◌, IsTrue, List, [], ◌∷◌, refl, sym, ap, subst, true≢false, ℕ, nat_eq, eqb-true, Option, Some, None}
use Rattle.std.specs.FinMap.{entries, same_entries_map}
use Rattle.std.specs.Cmp.Lexicographic.{pointwise}
use Rattle.node_base.specs.Path.{Name}
use Rattle.node_base.specs.Props.{PropMap}
use Rattle.node_base.proofs.PathLemmas.{same_name_itself, name_of_same}
use Rattle.tree_reports.specs.Differences.{is_same_text, are_same_entries, are_same_props}

and_true : (a b : Bool) → (a && b) ≡ true → (a ≡ true) × (b ≡ true)
and_true true b e = (refl, e)
and_true false b e = absurd (true≢false (sym e))

true_and : (a b : Bool) → a ≡ true → b ≡ true → (a && b) ≡ true
true_and a b p q = cc

same_entries_itself : (es : List (Name × Name)) → are_same_entries es es ≡ true
same_entries_itself [] = refl
same_entries_itself (e ∷ es) = true_and _ _ (true_and _ _ (same_name_itself e.0) (same_name_itself e.1)) (same_entries_itself es)

entries_of_same : (ds es : List (Name × Name)) → are_same_entries ds es ≡ true → ds ≡ es
entries_of_same [] [] e = refl
entries_of_same [] (y ∷ es) e = absurd (true≢false (sym e))
entries_of_same (x ∷ ds) [] e = absurd (true≢false (sym e))
entries_of_same (x ∷ ds) (y ∷ es) e =
    let b = and_true _ _ e in
    let h = and_true _ _ b.0 in
    let names = name_of_same x.0 y.0 h.0 in
    let values = name_of_same x.1 y.1 h.1 in
    let rest = entries_of_same ds es b.1 in
    λ i. (names i, values i) ∷ rest i

-- a test that says whether they are equal is the test by their entries
pub props_test : (a b : PropMap) (r : Bool) → (IsTrue r ↔ (a ≡ b)) → r ≡ are_same_props a b
props_test a b true h = sym (subst (λ m. are_same_props a m ≡ true) (h.0 refl) (same_entries_itself (entries a)))
props_test a b false h =
    elim (are_same_props a b) as (λ t. are_same_props a b ≡ t → false ≡ t) [
      | true ↦ λ t. h.1 (same_entries_map a b (entries_of_same (entries a) (entries b) t))
      | false ↦ λ _. refl
    ] refl

-- what the tests find equal is equal
pub props_of_same : (a b : PropMap) → are_same_props a b ≡ true → a ≡ b
props_of_same a b e = same_entries_map a b (entries_of_same (entries a) (entries b) e)

bytes_of_same : (a b : List ℕ) → pointwise nat_eq a b ≡ true → a ≡ b
bytes_of_same [] [] e = refl
bytes_of_same [] (y ∷ b) e = cc
bytes_of_same (x ∷ a) [] e = cc
bytes_of_same (x ∷ a) (y ∷ b) e = let h = and_true _ _ e in cc (eqb-true x y h.0, bytes_of_same a b h.1)

pub text_of_same : (s t : Option Name) → is_same_text s t ≡ true → s ≡ t
text_of_same None None e = refl
text_of_same None (Some t) e = absurd (true≢false (sym e))
text_of_same (Some s) None e = absurd (true≢false (sym e))
text_of_same (Some s) (Some t) e = ap Some (bytes_of_same s t e)
