-- What follows from the definitions of paths.
use Rattle.std.proofs.Common.{length, ◌==◌, ◌≡◌, ◌+◌, zero-add, true, false, cond, ◌&&◌, [], ◌∷◌, ◌++◌, Some, None, refl, sym, ap, ◌∙◌, arith}
use Rattle.std.proofs.lemmas.Bool.Decides.{nat_tests}
use Rattle.std.specs.Cmp.{eq_by_cmp_equiv}
use Rattle.std.specs.Option.{is_some, option_map_or, option_and_then}
use Rattle.std.specs.declared.cmp.Ordering.{Ordering}
use Rattle.std.specs.declared.cmp.Ordering.TheVariants.{Less, Equal, Greater}
use Rattle.std.specs.Ordering.{is_eq, ordering_then}
use Rattle.std.proofs.lemmas.Cmp.{tied_itself}
use Rattle.node_base.specs.Path.{Name, Path, name_cmp, path_cmp, names_total, names_exact, paths_total, paths_exact, same_name, same_path, rest_after, is_front}
use Rattle.node_base.specs.Limits.{weight}

pub same_name_itself : (n : Name) → same_name n n ≡ true
same_name_itself n = ap is_eq (tied_itself names_total n)

pub same_path_itself : (p : Path) → same_path p p ≡ true
same_path_itself p = ap is_eq (tied_itself paths_total p)

is_equal : (r : Ordering) → is_eq r ≡ true → r ≡ Equal
is_equal Less e = cc
is_equal Equal e = refl
is_equal Greater e = cc

pub name_of_same : (n m : Name) → same_name n m ≡ true → n ≡ m
name_of_same n m e = names_exact n m (is_equal _ e)

pub path_of_same : (p q : Path) → same_path p q ≡ true → p ≡ q
path_of_same p q e = paths_exact p q (is_equal _ e)

both_equal : (r s : Ordering) → is_eq (ordering_then r s) ≡ (is_eq r && is_eq s)
both_equal Less s = refl
both_equal Equal s = refl
both_equal Greater s = refl

pub same_path-cons : (n : Name) (p : Path) (m : Name) (q : Path) → same_path (n ∷ p) (m ∷ q) ≡ (same_name n m && same_path p q)
same_path-cons n p m q = both_equal (name_cmp n m) (path_cmp p q)

pub rest_after-append : (p q : Path) → rest_after p (p ++ q) ≡ Some q
rest_after-append [] q = refl
rest_after-append (n ∷ p) q = rw (same_name_itself n) (rest_after-append p q)

pub append_of_rest : (p q r : Path) → rest_after p q ≡ Some r → q ≡ p ++ r
append_of_rest [] q r e = cc
append_of_rest (n ∷ p) [] r e = cc
append_of_rest (n ∷ p) (m ∷ q) r e =
    elim (same_name n m) as (λ b. same_name n m ≡ b → cond b (rest_after p q) None ≡ Some r → m ∷ q ≡ (n ∷ p) ++ r) [
      | true ↦ λ s e. cc (name_of_same n m s, append_of_rest p q r e)
      | false ↦ λ s e. cc
    ] refl e

-- to go on after p is to go on after r in what follows p
pub rest_after-longer : (p r q : Path) → rest_after (p ++ r) q ≡ option_and_then (rest_after r) (rest_after p q)
rest_after-longer [] r q = refl
rest_after-longer (n ∷ p) r [] = refl
rest_after-longer (n ∷ p) r (m ∷ q) =
    elim (same_name n m) as (λ b. cond b (rest_after (p ++ r) q) None ≡ option_and_then (rest_after r) (cond b (rest_after p q) None)) [ true ↦ rest_after-longer p r q | false ↦ refl ]

pub longer_is_no_front : (p r q : Path) → rest_after p q ≡ None → rest_after (p ++ r) q ≡ None
longer_is_no_front p r q e = rest_after-longer p r q ∙ ap (option_and_then (rest_after r)) e

-- an earlier path has no later one as a front
pub later_is_no_front : (p q : Path) → path_cmp q p ≡ Less → rest_after p q ≡ None
later_is_no_front [] [] e = cc
later_is_no_front [] (m ∷ q) e = cc
later_is_no_front (n ∷ p) [] e = refl
later_is_no_front (n ∷ p) (m ∷ q) e =
    elim (same_name n m) as (λ b. same_name n m ≡ b → cond b (rest_after p q) None ≡ None) [
      | true ↦ λ s. later_is_no_front p q (ap (λ r. ordering_then r (path_cmp q p)) (sym (tied_itself names_total m) ∙ ap (name_cmp m) (sym (name_of_same n m s))) ∙ e)
      | false ↦ λ s. refl
    ] refl

-- a path is the same as its front with nothing after it
pub same_path-rest : (p q : Path) → same_path p q ≡ option_map_or (λ r. same_path r []) (rest_after p q) false
same_path-rest [] [] = refl
same_path-rest [] (m ∷ q) = refl
same_path-rest (n ∷ p) [] = refl
same_path-rest (n ∷ p) (m ∷ q) =
    same_path-cons n p m q
    ∙ elim (same_name n m) as (λ b. (b && same_path p q) ≡ option_map_or (λ r. same_path r []) (cond b (rest_after p q) None) false) [ true ↦ same_path-rest p q | false ↦ refl ]

pub differs_of_no_rest : (p q : Path) → rest_after p q ≡ None → same_path p q ≡ false
differs_of_no_rest p q e = same_path-rest p q ∙ ap (λ o. option_map_or (λ r. same_path r []) o false) e

pub same_path_back : (p q : Path) → same_path p q ≡ same_path q p
same_path_back p q = (eq_by_cmp_equiv paths_total).symm p q

pub same_path-append : (p r : Path) → same_path p (p ++ r) ≡ same_path r []
same_path-append p r = same_path-rest p (p ++ r) ∙ ap (λ o. option_map_or (λ r. same_path r []) o false) (rest_after-append p r)

pub is_root : (p : Path) → (length p == 0) ≡ same_path p []
is_root [] = refl
is_root (n ∷ p) = grind (arith, nat_tests)

-- a path stands before what is below it
pub before_below : (p q : Path) (n : Name) → path_cmp p (p ++ n ∷ q) ≡ Less
before_below [] q n = refl
before_below (m ∷ p) q n = rw (tied_itself names_total m) (before_below p q n)

-- what is below an earlier path stands before each later path that isn't below it
pub below_stays_before : (p q r : Path) → path_cmp p q ≡ Less → is_front p q ≡ false → path_cmp (p ++ r) q ≡ Less
below_stays_before [] q r e f = cc
below_stays_before (n ∷ p) [] r e f = cc
below_stays_before (n ∷ p) (m ∷ q) r e f =
    elim (name_cmp n m) as (λ o. ordering_then o (path_cmp p q) ≡ Less → is_some (cond (is_eq o) (rest_after p q) None) ≡ false → ordering_then o (path_cmp (p ++ r) q) ≡ Less) [
      | Less ↦ λ e f. refl
      | Equal ↦ λ e f. below_stays_before p q r e f
      | Greater ↦ λ e f. cc
    ] e f

-- the bytes of paths in a row
pub weight-append : (p q : Path) → weight (p ++ q) ≡ weight p + weight q
weight-append [] q = sym (zero-add (weight q))
weight-append (n ∷ p) q = omega (arith, weight-append p q)
