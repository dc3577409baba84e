-- Digits that are read are zeros and the number as it is written, and those are read.
use Rattle.std.proofs.Common.{rules, ◌≡◌, ◌≢◌, ◌==◌, ◌<◌, ◌^◌, ℕ, zero, suc, Bool, true, false, cond, ◌&&◌, not, nat_lt, List, [], ◌∷◌, ◌++◌, length, replicate, Some, None, refl, sym, ap, subst, ◌∙◌, arith}
use Rattle.std.proofs.lemmas.Bool.Decides.{nat_tests}
use Rattle.std.proofs.lemmas.Str.Parse.{IsNumeralModel, numerals_by_fold}
use Rattle.std.proofs.lemmas.Fmt.{digits_decimal, digits_value-decimal, decimal-digits_value, decimal_nonempty}
use Rattle.std.specs.Fmt as fmt
use Rattle.node_base.specs.Numbers.{is_digit, all_bytes, is_nil, number_after, number_of, decimal, SpellsNumber}

own : IsNumeralModel (λ ds. all_bytes is_digit ds ≡ true) number_of
own = numerals_by_fold (λ ds. all_bytes is_digit ds ≡ true) (search rules) number_after (search rules)

-- ---- zeros in front
digits_behind : (k : ℕ) (ds : List ℕ) → all_bytes is_digit (replicate k 48 ++ ds) ≡ all_bytes is_digit ds
digits_behind zero ds = refl
digits_behind (suc k) ds = digits_behind k ds

number_behind : (k : ℕ) (ds : List ℕ) → number_of (replicate k 48 ++ ds) ≡ number_of ds
number_behind zero ds = refl
number_behind (suc k) ds = number_behind k ds

some_behind : (k : ℕ) (ds : List ℕ) → 0 < length ds → is_nil (replicate k 48 ++ ds) ≡ false
some_behind zero [] h = absurd (omega arith)
some_behind zero (d ∷ ds) h = refl
some_behind (suc k) ds h = refl

below : (n : ℕ) → n < 2 ^ 64 → nat_lt n 18446744073709551616 ≡ true
below n h = grind (arith, nat_tests)

read_of_parts : (ds : List ℕ) (n : ℕ) → is_nil ds ≡ false → all_bytes is_digit ds ≡ true → number_of ds ≡ n → nat_lt n 18446744073709551616 ≡ true → decimal ds ≡ Some n
read_of_parts ds n some digits value small = rw (some, digits, value, small) refl

pub read_of_spelled : (ds : List ℕ) (n : ℕ) → n < 2 ^ 64 → SpellsNumber n ds → decimal ds ≡ Some n
read_of_spelled ds n small s =
    rw s.written
    (read_of_parts (replicate s.zeros 48 ++ fmt.decimal n) n
    (some_behind s.zeros (fmt.decimal n) (decimal_nonempty n small))
    (digits_behind s.zeros (fmt.decimal n) ∙ digits_decimal own n small)
    (number_behind s.zeros (fmt.decimal n) ∙ digits_value-decimal own n small)
    (below n small))

-- ---- what is read
both : (a b : Bool) → (a && b) ≡ true → (a ≡ true) × (b ≡ true)
both true true e = (refl, refl)
both true false e = cc
both false b e = cc

strip : (ds : List ℕ) → all_bytes is_digit ds ≡ true → 0 < length ds → number_of ds < 2 ^ 64 → SpellsNumber (number_of ds) ds
strip [] digits some small = absurd (omega arith)
strip (d ∷ []) digits some small = record { zeros = 0; written = sym (decimal-digits_value own (d ∷ []) digits some (λ _. refl) small) }
strip (d ∷ e ∷ ds) digits some small =
    elim (d == 48) as (λ t. (d == 48) ≡ t → SpellsNumber (number_of (d ∷ e ∷ ds)) (d ∷ e ∷ ds)) [
      | true ↦ λ zero_first.
          let is : d ≡ 48 = grind (arith, nat_tests) in
          behind_zero (strip (e ∷ ds) (both (is_digit d) (all_bytes is_digit (e ∷ ds)) digits).1 (omega arith) (small_behind is)) is
      | false ↦ λ other.
          let not_zero : d ≢ 48 = grind (arith, nat_tests) in
          record { zeros = 0; written = sym (decimal-digits_value own (d ∷ e ∷ ds) digits some (λ first. absurd (not_zero first)) small) }
    ] refl
  where
    behind_zero : SpellsNumber (number_of (e ∷ ds)) (e ∷ ds) → d ≡ 48 → SpellsNumber (number_of (d ∷ e ∷ ds)) (d ∷ e ∷ ds)
    behind_zero s is = rw is (record { zeros = suc s.zeros; written = ap (λ r. 48 ∷ r) s.written })

    small_behind : d ≡ 48 → number_of (e ∷ ds) < 2 ^ 64
    small_behind is = let P : ℕ → Type 0 = λ x. number_of (x ∷ e ∷ ds) < 2 ^ 64 in subst P is small

some_of_test : (ds : List ℕ) → is_nil ds ≡ false → 0 < length ds
some_of_test [] e = cc
some_of_test (d ∷ ds) e = omega arith

pub spelled_of_read : (ds : List ℕ) (n : ℕ) → decimal ds ≡ Some n → SpellsNumber n ds
spelled_of_read ds n e = parts (is_nil ds) (all_bytes is_digit ds) (nat_lt (number_of ds) 18446744073709551616) refl refl refl e
  where
    parts : (a b c : Bool) → is_nil ds ≡ a → all_bytes is_digit ds ≡ b → nat_lt (number_of ds) 18446744073709551616 ≡ c → cond (not a && b && c) (Some (number_of ds)) None ≡ Some n → SpellsNumber n ds
    parts true b c ea eb ec h = cc
    parts false false c ea eb ec h = cc
    parts false true false ea eb ec h = cc
    parts false true true ea eb ec h =
        let same : number_of ds ≡ n = cc in
        let small : number_of ds < 2 ^ 64 = grind (arith, nat_tests) in
        rw (← same) (strip ds eb (some_of_test ds ea) small)
