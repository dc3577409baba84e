-- Paths within the limits, and those that go on.
use Rattle.std.proofs.lemmas.List.{map-append}
use Rattle.std.specs.Borrow.{Bor}
use Rattle.std.specs.declared.cmp.Ordering.{Ordering}
use Rattle.std.specs.declared.cmp.Ordering.TheVariants.{Less, Equal, Greater}
use Rattle.std.specs.Ordering.{ordering_index}
use Rattle.std.specs.Bool.{◌==◌}
use Rattle.std.proofs.Common.{refl, ◌≡◌, ℕ, zero, suc, ◌<◌, List, get_or, subst, ◌++◌, ◌∷◌, [], true, length, sym, ap, ◌∙◌, arith, append_assoc, length-append}
use Rattle.std.proofs.lemmas.Bool.Decides.{nat_tests}
use Rattle.node_base.specs.Path.{Path, Name, name_cmp, names_exact}
use Rattle.std.specs.List.{AllByRecursion}
use Rattle.path_tree.specs.Listed.{shown_names}
use Rattle.tree_reports.specs.Differences.{shown}
use Rattle.tree_reports.specs.declared.difference.Difference.{Difference}
use Rattle.tree_changes.specs.Changes.{Fits}
use Rattle.node_base.specs.Limits.{fits}
use Rattle.node_base.proofs.PathLemmas.{weight-append}

front_fits : (p q : Path) → fits (p ++ q) ≡ true → fits p ≡ true
front_fits p q e = grind (arith, nat_tests, weight-append p q, length-append p q)

pub child_fits : (above rest : Path) (n : Name) → fits (above ++ n ∷ rest) ≡ true → fits (above ++ n ∷ []) ≡ true
child_fits above rest n e = front_fits (above ++ n ∷ []) rest (ap fits (append_assoc above (n ∷ []) rest) ∙ e)

pub rest_fits : (above rest : Path) (n : Name) → fits (above ++ n ∷ rest) ≡ true → fits ((above ++ n ∷ []) ++ rest) ≡ true
rest_fits above rest n e = ap fits (append_assoc above (n ∷ []) rest) ∙ e

-- what is above the last name
pub above_fits : (above : Path) (n : Name) → fits (above ++ n ∷ []) ≡ true → fits above ≡ true
above_fits above n e = front_fits above (n ∷ []) e

pub last_shown : (above : List (Bor Name)) (n : Bor Name) → shown_names (above ++ n ∷ []) ≡ shown_names above ++ n.now ∷ []
last_shown above n = map-append (λ m. m.now) above (n ∷ [])

equal_index : (o : Ordering) → (ordering_index o == 1) ≡ true → o ≡ Equal
equal_index Less e = cc
equal_index Equal e = refl
equal_index Greater e = cc

-- paths whose first names are one, and what follows too
pub names_match : (n m : Name) (p q : Path) (o : Ordering) → (ordering_index o == 1) ≡ true → o ≡ name_cmp n m → p ≡ q → n ∷ p ≡ m ∷ q
names_match n m p q o e is f = ap (λ x. x ∷ p) (names_exact n m (sym is ∙ equal_index o e)) ∙ ap (λ r. m ∷ r) f

-- each of those that fit
pub fit_at : (ds : List Difference) (i : ℕ) (d : Difference) → AllByRecursion Fits (shown ds) → i < length ds → d ≡ get_or ds i d → fits (shown_names d.path.items) ≡ true
fit_at [] i d h l e = absurd (absurd_below i l)
  where
    absurd_below : (i : ℕ) → i < 0 → ⊥
    absurd_below i l = omega (arith, l)
fit_at (x ∷ ds) zero d h l e = subst (λ y. fits (shown_names y.path.items) ≡ true) (sym e) h.0
fit_at (x ∷ ds) (suc i) d h l e = fit_at ds i d h.1 (omega (arith, l)) e
