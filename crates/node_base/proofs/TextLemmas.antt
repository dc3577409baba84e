-- What follows from the definitions of a path's text.
use Rattle.std.proofs.Common.{◌≡◌, ◌==◌, ◌≤◌, ◌<◌, ◌+◌, ◌-◌, ℕ, zero, Bool, true, false, cond, ◌&&◌, ◌||◌, not, List, [], ◌∷◌, ◌++◌, length, take, drop, Some, None, Ok, Err, refl, sym, ap, ◌∙◌, arith, nat_lt, length-append, append_assoc, append-nil}
use Rattle.std.proofs.lemmas.Bool.Decides.{nat_tests}
use Rattle.std.specs.List.{slice_split, onto_first, position_or_len, position, list_all, list_any}
use Rattle.std.proofs.lemmas.List.{take_rest}
use Rattle.std.proofs.lemmas.List.Splits.{slice_split_first, length-slice_split, join_with_byte-slice_split}
use Rattle.std.proofs.lemmas.List.Sums.{count_by-le-length}
use Rattle.std.proofs.lemmas.List.Folds.{list_all-append}
use Rattle.node_base.specs.Path.{Name, Path}
use Rattle.node_base.specs.Limits.{weight, fits}
use Rattle.node_base.specs.Names.{is_name}
use Rattle.node_base.specs.PathText.{path_text, slashed, pieces, is_long_name, is_past_limits, name_read, path_read, Answers}
use Rattle.node_base.specs.declared.fault.PathFault.{PathFault}
use Rattle.node_base.specs.declared.fault.PathFault.TheVariants.{TooLong, BadPath, OutOfMemory}

abbrev is_slash : ℕ → Bool
is_slash x = x == 47

-- ---- the first slash
split_at_place : (bs : List ℕ) (i : ℕ) → position_or_len is_slash bs ≡ i → nat_lt i (length bs) ≡ true → slice_split is_slash bs ≡ take i bs ∷ slice_split is_slash (drop (i + 1) bs)
split_at_place bs i e l =
    let within : position_or_len is_slash bs < length bs = grind (arith, nat_tests) in
    let at_place : slice_split is_slash bs ≡ take (position_or_len is_slash bs) bs ∷ slice_split is_slash (drop (position_or_len is_slash bs + 1) bs) = slice_split_first is_slash bs zero within in
    at_place ∙ ap (λ j. take j bs ∷ slice_split is_slash (drop (j + 1) bs)) e

pub split_at : (bs : List ℕ) (i : ℕ) → position is_slash bs ≡ Some i → slice_split is_slash bs ≡ take i bs ∷ slice_split is_slash (take (length bs - (i + 1)) (drop (i + 1) bs))
split_at bs i e =
    elim (nat_lt (position_or_len is_slash bs) (length bs)) as (λ b. nat_lt (position_or_len is_slash bs) (length bs) ≡ b → cond b (Some (position_or_len is_slash bs)) None ≡ Some i → slice_split is_slash bs ≡ take i bs ∷ slice_split is_slash (take (length bs - (i + 1)) (drop (i + 1) bs))) [
      | true ↦ λ l s. rw (take_rest bs (i + 1)) (place bs i l s)
      | false ↦ λ l s. cc
    ] refl e
  where
    place : (bs : List ℕ) (i : ℕ) → nat_lt (position_or_len is_slash bs) (length bs) ≡ true → Some (position_or_len is_slash bs) ≡ Some i → slice_split is_slash bs ≡ take i bs ∷ slice_split is_slash (drop (i + 1) bs)
    place bs i l s = let e : position_or_len is_slash bs ≡ i = cc in split_at_place bs i e (rw (← e) l)

-- a list that no element of which passes is one part
whole : (bs : List ℕ) → length bs ≤ position_or_len is_slash bs → slice_split is_slash bs ≡ bs ∷ []
whole [] e = refl
whole (b ∷ bs) e =
    elim (is_slash b) as (λ t. length (b ∷ bs) ≤ cond (not t) (1 + position_or_len is_slash bs) 0 → cond t ([] ∷ slice_split is_slash bs) (onto_first b (slice_split is_slash bs)) ≡ (b ∷ bs) ∷ []) [
      | true ↦ λ h. absurd (omega arith)
      | false ↦ λ h. ap (onto_first b) (whole bs (omega arith))
    ] e

pub no_split : (bs : List ℕ) → position is_slash bs ≡ None → slice_split is_slash bs ≡ bs ∷ []
no_split bs e =
    elim (nat_lt (position_or_len is_slash bs) (length bs)) as (λ b. nat_lt (position_or_len is_slash bs) (length bs) ≡ b → cond b (Some (position_or_len is_slash bs)) None ≡ None → slice_split is_slash bs ≡ bs ∷ []) [
      | true ↦ λ l s. cc
      | false ↦ λ l s. whole bs (grind (arith, nat_tests))
    ] refl e

-- ---- how many pieces
pub few_pieces : (bs : List ℕ) → length (pieces bs) ≤ length bs + 1
few_pieces [] = omega arith
few_pieces (b ∷ bs) = omega (arith, length-slice_split is_slash (b ∷ bs), count_by-le-length is_slash (b ∷ bs))

-- ---- how long pieces are: no longer than the whole
abbrev Within : ℕ → List Name → Type 0
Within k [] = Unit {0}
Within k (n ∷ ns) = (length n ≤ k) × Within k ns

widened : (k m : ℕ) (ns : List Name) → k ≤ m → Within k ns → Within m ns
widened k m [] h w = tt
widened k m (n ∷ ns) h w = let first : length n ≤ k = w.0 in (omega arith, widened k m ns h w.1)

first_longer : (k b : ℕ) (ns : List Name) → Within k ns → Within (k + 1) (onto_first b ns)
first_longer k b [] w = (omega arith, tt)
first_longer k b (n ∷ ns) w = let first : length n ≤ k = w.0 in (omega arith, widened k (k + 1) ns (omega arith) w.1)

parts_within : (bs : List ℕ) → Within (length bs) (slice_split is_slash bs)
parts_within [] = (omega arith, tt)
parts_within (b ∷ bs) =
    let more : length bs + 1 ≡ length (b ∷ bs) = omega arith in
    elim (is_slash b) as (λ t. Within (length (b ∷ bs)) (cond t ([] ∷ slice_split is_slash bs) (onto_first b (slice_split is_slash bs)))) [
      | true ↦ (omega arith, widened (length bs) (length (b ∷ bs)) (slice_split is_slash bs) (omega arith) (parts_within bs))
      | false ↦ rw (← more) (first_longer (length bs) b (slice_split is_slash bs) (parts_within bs))
    ]

none_long : (ns : List Name) → Within 255 ns → list_any is_long_name ns ≡ false
none_long [] w = refl
none_long (n ∷ ns) w =
    let short : length n ≤ 255 = w.0 in
    let first : nat_lt 255 (length n) ≡ false = grind (arith, nat_tests) in
    ap (λ t. t || list_any is_long_name ns) first ∙ none_long ns w.1

pub short_pieces : (bs : List ℕ) → length bs ≤ 255 → list_any is_long_name (pieces bs) ≡ false
short_pieces [] h = refl
short_pieces (b ∷ bs) h = none_long (slice_split is_slash (b ∷ bs)) (widened (length (b ∷ bs)) 255 (slice_split is_slash (b ∷ bs)) h (parts_within (b ∷ bs)))

-- ---- the pieces joined
pub text_of_pieces : (bs : List ℕ) → path_text (pieces bs) ≡ bs
text_of_pieces [] = refl
text_of_pieces (b ∷ bs) = join_with_byte-slice_split 47 (b ∷ bs)

-- the names behind the first, each behind a slash
pub text_of_first : (n : Name) (p : Path) → path_text (n ∷ p) ≡ n ++ slashed p
text_of_first n [] = sym (append-nil n)
text_of_first n (m ∷ p) = ap (λ r. n ++ (47 ∷ r)) (text_of_first m p)

pub weight_of_text : (p : Path) → weight p ≤ length (path_text p) + 1
weight_of_text [] = omega arith
weight_of_text (n ∷ []) = omega arith
weight_of_text (n ∷ m ∷ p) = omega (arith, weight_of_text (m ∷ p), length-append n (47 ∷ path_text (m ∷ p)))

-- ---- what is within the limits
none_of_three : (a b c : Bool) → (a || b || c) ≡ false → (a ≡ false) × (b ≡ false) × (c ≡ false)
none_of_three true b c e = cc
none_of_three false true c e = cc
none_of_three false false c e = (refl, refl, e)

limits_kept : (bs : List ℕ) → is_past_limits bs ≡ false → (nat_lt 1024 (length bs) ≡ false) × (nat_lt 64 (length (pieces bs)) ≡ false) × (list_any is_long_name (pieces bs) ≡ false)
unfolding is_past_limits
limits_kept bs e = none_of_three (nat_lt 1024 (length bs)) (nat_lt 64 (length (pieces bs))) (list_any is_long_name (pieces bs)) e

weight_within : (bs : List ℕ) → length bs ≤ 1024 → weight (pieces bs) ≤ 1025
weight_within bs small = omega (arith, weight_of_text (pieces bs), ap length (text_of_pieces bs))

within : (p : Path) → length p ≤ 64 → weight p ≤ 1025 → fits p ≡ true
within p few light = grind (arith, nat_tests)

not_above : (n m : ℕ) → nat_lt n m ≡ false → m ≤ n
not_above n m e = grind (arith, nat_tests)

pub fits_within : (bs : List ℕ) → is_past_limits bs ≡ false → fits (pieces bs) ≡ true
fits_within bs e =
    let kept = limits_kept bs e in
    within (pieces bs) (not_above 64 (length (pieces bs)) kept.1) (weight_within bs (not_above 1024 (length bs) kept.0))

pub not_long : (bs : List ℕ) → is_past_limits bs ≡ false → list_any is_long_name (pieces bs) ≡ false
not_long bs e = (limits_kept bs e).2

-- ---- one piece of many
any_inside : (f : Name → Bool) (p q : Path) (n : Name) → f n ≡ true → list_any f (p ++ n ∷ q) ≡ true
any_inside f [] q n e = rw e refl
any_inside f (m ∷ p) q n e = elim (f m) as (λ b. (b || list_any f (p ++ n ∷ q)) ≡ true) [ true ↦ refl | false ↦ any_inside f p q n e ]

not_all_inside : (f : Name → Bool) (p q : Path) (n : Name) → f n ≡ false → list_all f (p ++ n ∷ q) ≡ false
not_all_inside f [] q n e = rw e refl
not_all_inside f (m ∷ p) q n e = elim (f m) as (λ b. (b && list_all f (p ++ n ∷ q)) ≡ false) [ true ↦ not_all_inside f p q n e | false ↦ refl ]

-- ---- what a refused name says of it
named : (n : Name) (a b : Bool) → cond a (Err TooLong) (cond b (Ok n) (Err BadPath)) ≡ Err TooLong → a ≡ true
named n true b e = refl
named n false true e = cc
named n false false e = cc

misnamed : (n : Name) (a b : Bool) → cond a (Err TooLong) (cond b (Ok n) (Err BadPath)) ≡ Err BadPath → b ≡ false
misnamed n true b e = cc
misnamed n false true e = cc
misnamed n false false e = refl

long_of_fault : (n : Name) → name_read n ≡ Err TooLong → is_long_name n ≡ true
unfolding name_read
long_of_fault n e = named n (is_long_name n) (is_name n) e

bad_of_fault : (n : Name) → name_read n ≡ Err BadPath → is_name n ≡ false
unfolding name_read
bad_of_fault n e = misnamed n (is_long_name n) (is_name n) e

bad_path : (bs : List ℕ) → is_past_limits bs ≡ false → list_all is_name (pieces bs) ≡ false → path_read bs ≡ Err BadPath
unfolding path_read
bad_path bs small bad = rw (small, bad) refl

long_inside : (bs : List ℕ) (p q : Path) (n : Name) → pieces bs ≡ p ++ n ∷ q → is_past_limits bs ≡ false → is_long_name n ≡ true → ⊥
long_inside bs p q n split small long =
    let yes : list_any is_long_name (pieces bs) ≡ true = rw split (any_inside is_long_name p q n long) in
    let none : list_any is_long_name (pieces bs) ≡ false = not_long bs small in cc

-- a piece that isn't taken
pub piece_refused : (bs : List ℕ) (p q : Path) (n : Name) (e : PathFault) → pieces bs ≡ p ++ n ∷ q → is_past_limits bs ≡ false → Answers (name_read n) (Err e) → Answers (path_read bs) (Err e)
piece_refused bs p q n TooLong split small fault = absurd (long_inside bs p q n split small (long_of_fault n fault))
piece_refused bs p q n BadPath split small fault = bad_path bs small (rw split (not_all_inside is_name p q n (bad_of_fault n fault)))
piece_refused bs p q n OutOfMemory split small fault = tt

-- ---- a piece that is taken
taken : (n m : Name) (a b : Bool) → cond a (Err TooLong) (cond b (Ok n) (Err BadPath)) ≡ Ok m → (b ≡ true) × (n ≡ m)
taken n m true b e = cc
taken n m false true e = (refl, cc)
taken n m false false e = cc

pub name_taken : (n m : Name) → name_read n ≡ Ok m → (is_name m ≡ true) × (n ≡ m)
unfolding name_read
name_taken n m e = let both = taken n m (is_long_name n) (is_name n) e in (rw (← both.1) both.0, both.1)

pub piece_taken : (bs : List ℕ) (p q : Path) (n m : Name) → pieces bs ≡ p ++ n ∷ q → list_all is_name p ≡ true → name_read n ≡ Ok m → (pieces bs ≡ (p ++ m ∷ []) ++ q) × (list_all is_name (p ++ m ∷ []) ≡ true)
piece_taken bs p q n m split good read =
    let both = name_taken n m read in
    (split ∙ ap (λ k. p ++ k ∷ q) both.1 ∙ sym (append_assoc p (m ∷ []) q), rw (list_all-append is_name p (m ∷ []), good, both.0) refl)
