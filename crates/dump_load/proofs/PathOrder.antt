-- The order of paths, and fronts.
use Rattle.std.proofs.Common.{◌≡◌, false, cond, [], ◌∷◌, Option, Some, None, is_some, refl, sym, ap, ◌∙◌}
use Rattle.std.specs.Ordering.{is_lt, is_eq, ordering_reverse, ordering_then}
use Rattle.std.specs.declared.cmp.Ordering.{Ordering}
use Rattle.std.specs.declared.cmp.Ordering.TheVariants.{Less, Equal, Greater}
use Rattle.node_base.specs.Path.{Name, Path, name_cmp, path_cmp, names_total, names_exact, paths_total, same_name, same_path, is_front, rest_after}

pub no_front_none : (p q : Path) → is_front p q ≡ false → rest_after p q ≡ None
no_front_none p q e = at (rest_after p q) e
  where
    at : (o : Option Path) → is_some o ≡ false → o ≡ None
    at None e = refl
    at (Some r) e = cc

pub less_differs : (p q : Path) → path_cmp p q ≡ Less → same_path p q ≡ false
less_differs p q e = ap is_eq e

pub greater_differs : (p q : Path) → path_cmp p q ≡ Less → same_path q p ≡ false
greater_differs p q e = ap is_eq (paths_total.antisymm q p) ∙ ap (λ r. is_eq (ordering_reverse r)) e

-- what isn't later and isn't the same comes before
pub less_of : (p q : Path) → is_lt (path_cmp q p) ≡ false → same_path p q ≡ false → path_cmp p q ≡ Less
less_of p q h d = at (path_cmp p q) d (sym (ap is_lt (paths_total.antisymm q p)) ∙ h)
  where
    at : (r : Ordering) → is_eq r ≡ false → is_lt (ordering_reverse r) ≡ false → r ≡ Less
    at Less d h = refl
    at Equal d h = cc
    at Greater d h = cc

names_less : (n m k : Name) → name_cmp n m ≡ Less → name_cmp m k ≡ Less → same_name n k ≡ false
names_less n m k e f = ap is_eq (names_total.trans n m k e f)

-- what comes after a path, and wasn't below an earlier one there, isn't below it later
pub between : (d p q : Path) → path_cmp d p ≡ Less → path_cmp p q ≡ Less → rest_after d p ≡ None → rest_after d q ≡ None
between [] p q e f h = cc
between (n ∷ d) [] q e f h = cc
between (n ∷ d) (m ∷ p) [] e f h = cc
between (n ∷ d) (m ∷ p) (k ∷ q) e f h =
    elim (name_cmp n m) as (λ r. name_cmp n m ≡ r → ordering_then r (path_cmp d p) ≡ Less → cond (is_eq r) (rest_after d p) None ≡ None → cond (same_name n k) (rest_after d q) None ≡ None) [
      | Less ↦ λ a _ _. elim (name_cmp m k) as (λ s. name_cmp m k ≡ s → ordering_then s (path_cmp p q) ≡ Less → cond (same_name n k) (rest_after d q) None ≡ None) [
        | Less ↦ λ b _. ap (λ t. cond t (rest_after d q) None) (names_less n m k a b)
        | Equal ↦ λ b _. ap (λ t. cond t (rest_after d q) None) (ap is_eq (ap (name_cmp n) (sym (names_exact m k b)) ∙ a))
        | Greater ↦ λ b g. cc
      ] refl f
      | Equal ↦ λ a e h. elim (name_cmp m k) as (λ s. name_cmp m k ≡ s → ordering_then s (path_cmp p q) ≡ Less → cond (same_name n k) (rest_after d q) None ≡ None) [
        | Less ↦ λ b _. ap (λ t. cond t (rest_after d q) None) (ap is_eq (ap (λ z. name_cmp z k) (names_exact n m a) ∙ b))
        | Equal ↦ λ b g. ap (λ t. cond t (rest_after d q) None) (ap is_eq (ap (λ z. name_cmp z k) (names_exact n m a) ∙ b)) ∙ between d p q e g h
        | Greater ↦ λ b g. cc
      ] refl f
      | Greater ↦ λ a e _. cc
    ] refl e h
