-- Kinds of bytes, and numbers by their digits.
use Rattle.std.proofs.Common.{◌≡◌, ℕ, zero, suc, ◌+◌, ◌-◌, ◌*◌, ◌/◌, ◌%◌, ◌≤◌, ◌<◌, ◌^◌, ◌==◌, ◌&&◌, Bool, true, false, List, [], ◌∷◌, ◌++◌, length, nat_le, refl, sym, ap, ◌∙◌, length-append, arith}
use Rattle.std.proofs.lemmas.Bool.Decides.{nat_tests}
use Rattle.std.proofs.lemmas.Fmt.{decimal_digit, decimal_step}
use Rattle.std.specs.Fmt.{decimal}
use Rattle.ra_item.specs.Bytes.{is_white, is_digit, is_letter, is_word_byte, all_bytes, number_after}
use Rattle.ra_item.specs.Grammar.{Spells}

pub both : (a b : Bool) → (a && b) ≡ true → (a ≡ true) × (b ≡ true)
both true b e = (refl, e)
both false b e = cc

pub digit_low : (c : ℕ) → is_digit c ≡ true → 48 ≤ c
digit_low c e = let p = both (nat_le 48 c) (nat_le c 57) e in grind (arith, nat_tests)

pub digit_high : (c : ℕ) → is_digit c ≡ true → c ≤ 57
digit_high c e = let p = both (nat_le 48 c) (nat_le c 57) e in grind (arith, nat_tests)

-- a byte outside a range
not_in : (a z b : ℕ) → b < a → (nat_le a b && nat_le b z) ≡ false
not_in a z b h = let e : nat_le a b ≡ false = grind (arith, nat_tests) in rw e refl

not_in_above : (a z b : ℕ) → z < b → (nat_le a b && nat_le b z) ≡ false
not_in_above a z b h = elim (nat_le a b) as (λ t. (t && nat_le b z) ≡ false) [ true ↦ grind (arith, nat_tests) | false ↦ refl ]

eq_false : (a b : ℕ) → (a ≡ b → ⊥) → (a == b) ≡ false
eq_false a b h = grind (arith, nat_tests)

white_low : (b : ℕ) → is_white b ≡ true → b ≤ 32
white_low b e = grind (arith, nat_tests)

-- white space is no digit, no letter, no hyphen and no colon
pub white_no_digit : (b : ℕ) → is_white b ≡ true → is_digit b ≡ false
white_no_digit b e = let l = white_low b e in not_in 48 57 b (omega arith)

white_no_letter : (b : ℕ) → is_white b ≡ true → is_letter b ≡ false
white_no_letter b e = let l = white_low b e in rw (not_in 65 90 b (omega arith), not_in 97 122 b (omega arith)) refl

pub white_no_word : (b : ℕ) → is_white b ≡ true → is_word_byte b ≡ false
white_no_word b e = let l = white_low b e in rw (white_no_letter b e, white_no_digit b e, eq_false b 45 (λ x. absurd (omega arith))) refl

pub white_no_colon : (b : ℕ) → is_white b ≡ true → (b == 58) ≡ false
white_no_colon b e = let l = white_low b e in eq_false b 58 (λ x. absurd (omega arith))

not_white : (b : ℕ) → 32 < b → is_white b ≡ false
not_white b h = rw (eq_false b 32 (λ x. absurd (omega arith)), eq_false b 10 (λ x. absurd (omega arith))) refl

-- a digit is no white space and no letter
pub digit_no_white : (b : ℕ) → is_digit b ≡ true → is_white b ≡ false
digit_no_white b e = let l = digit_low b e in not_white b (omega arith)

pub digit_no_letter : (b : ℕ) → is_digit b ≡ true → is_letter b ≡ false
digit_no_letter b e = let l = digit_high b e in rw (not_in 65 90 b (omega arith), not_in 97 122 b (omega arith)) refl

-- a letter is no white space
pub letter_no_white : (b : ℕ) → is_letter b ≡ true → is_white b ≡ false
letter_no_white b e = elim (is_white b) as (λ t. is_white b ≡ t → t ≡ false) [ false ↦ λ _. refl | true ↦ λ w. sym e ∙ white_no_letter b w ] refl

-- digits behind a number make it no smaller
pub number_after-ge : (n : ℕ) (ds : List ℕ) → n ≤ number_after n ds
number_after-ge n [] = omega arith
number_after-ge n (d ∷ ds) = omega (arith, number_after-ge (n * 10 + (d - 48)) ds)

pub number_after-append : (n : ℕ) (ds es : List ℕ) → number_after n (ds ++ es) ≡ number_after (number_after n ds) es
number_after-append n [] es = refl
number_after-append n (d ∷ ds) es = number_after-append (n * 10 + (d - 48)) ds es

zero_and : (d : ℕ) → 0 * 10 + d ≡ d
zero_and d = omega arith

-- one digit more makes the printed number one digit longer at most
longer : (n d : ℕ) → d < 10 → n * 10 + d < 2 ^ 64 → length (decimal (n * 10 + d)) ≤ length (decimal n) + 1
longer zero d h k = omega (arith, ap length (decimal_digit d h), ap (λ x. length (decimal x)) (zero_and d))
longer (suc m) d h k =
    let q : (suc m * 10 + d) / 10 ≡ suc m = omega arith in
    let s = decimal_step (suc m * 10 + d) (omega arith) k in
    omega (arith, ap length s, length-append (decimal ((suc m * 10 + d) / 10)) ((48 + (suc m * 10 + d) % 10) ∷ []), ap (λ x. length (decimal x)) q)

printed_short : (n : ℕ) (ds : List ℕ) → all_bytes is_digit ds ≡ true → number_after n ds < 2 ^ 64 → length (decimal (number_after n ds)) ≤ length (decimal n) + length ds
printed_short n [] e h = omega arith
printed_short n (d ∷ ds) e h =
    let p = both (is_digit d) (all_bytes is_digit ds) e in
    let hi = digit_high d p.0 in
    let g = number_after-ge (n * 10 + (d - 48)) ds in
    omega (arith, printed_short (n * 10 + (d - 48)) ds p.1 h, longer n (d - 48) (omega arith) (omega arith))

-- no spelling of a number is shorter than the printed one
pub decimal_shortest : (digits : List ℕ) (n : ℕ) → Spells digits n → n < 2 ^ 64 → length (decimal n) ≤ length digits
decimal_shortest [] n s h = absurd (omega (arith, s.some))
decimal_shortest (d ∷ ds) n s h =
    let p = both (is_digit d) (all_bytes is_digit ds) s.digits_only in
    let hi = digit_high d p.0 in
    let z : 0 * 10 + (d - 48) ≡ d - 48 = omega arith in
    let e : number_after (d - 48) ds ≡ n = rw z at s.number in
    omega (arith, printed_short (d - 48) ds p.1 (omega (arith, e)), ap (λ x. length (decimal x)) e, ap length (decimal_digit (d - 48) (omega arith)))
