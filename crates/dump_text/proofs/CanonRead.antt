-- What is written is read again.
use Rattle.std.proofs.Common.{◌≡◌, ℕ, ◌+◌, ◌≤◌, ◌<◌, ◌^◌, ◌==◌, ◌&&◌, not, Bool, true, false, List, [], ◌∷◌, ◌++◌, length, nat_le, nat_lt, Some, Ok, refl, length-append, arith}
use Rattle.std.specs.Prelude.{codes}
use Rattle.std.specs.Fmt.{decimal as printed}
use Rattle.std.proofs.lemmas.Bool.Decides.{nat_tests}
use Rattle.std.proofs.lemmas.Fmt.{length-decimal-le}
use Rattle.node_base.specs.Numbers.{decimal, is_digit, is_nil, all_bytes}
use Rattle.node_base.proofs.BlockSpelled.{both}
use Rattle.node_base.proofs.BlockWritten.{spells_decimal}
use Rattle.dump_text.specs.Heads.{line_says, no_head}
use Rattle.dump_text.specs.Streams.{NoLf}
use Rattle.dump_text.specs.Grammar.{HeadOf}
use Rattle.dump_text.specs.declared.head.Head.{Head}

abbrev pub has_no_lf : List ℕ → Bool
has_no_lf [] = true
has_no_lf (b ∷ bs) = not (b == 10) && has_no_lf bs

pub not_true : (b : Bool) → not b ≡ true → b ≡ false
not_true true e = cc
not_true false e = refl

pub lone_of : (s : List ℕ) → has_no_lf s ≡ true → NoLf s
lone_of [] e = tt
lone_of (b ∷ bs) e = let p = both (not (b == 10)) (has_no_lf bs) e in (not_true (b == 10) p.0, lone_of bs p.1)

pub lone_append : (s t : List ℕ) → NoLf s → NoLf t → NoLf (s ++ t)
lone_append [] t a b = b
lone_append (x ∷ s) t a b = (a.0, lone_append s t a.1 b)

digit_no_lf : (b : ℕ) → is_digit b ≡ true → (b == 10) ≡ false
digit_no_lf b e = let p = both (nat_le 48 b) (nat_le b 57) e in grind (arith, nat_tests)

pub lone_digits : (s : List ℕ) → all_bytes is_digit s ≡ true → NoLf s
lone_digits [] e = tt
lone_digits (b ∷ bs) e = let p = both (is_digit b) (all_bytes is_digit bs) e in (digit_no_lf b p.0, lone_digits bs p.1)

some_not_nil : (s : List ℕ) → 0 < length s → is_nil s ≡ false
some_not_nil [] h = absurd (omega arith)
some_not_nil (b ∷ bs) h = refl

lt_true : (a b : ℕ) → a < b → nat_lt a b ≡ true
lt_true a b h = grind (arith, nat_tests)

pub lt_false : (a b : ℕ) → b ≤ a → nat_lt a b ≡ false
lt_false a b h = grind (arith, nat_tests)

pub le_true : (a b : ℕ) → a ≤ b → nat_le a b ≡ true
le_true a b h = grind (arith, nat_tests)

pub eq_false : (a b : ℕ) → (a ≡ b → ⊥) → (a == b) ≡ false
eq_false a b h = grind (arith, nat_tests)

pub eq_sum : (a : ℕ) → (a == a + 0) ≡ true
eq_sum a = grind (arith, nat_tests)

-- a number that is written is read
pub printed_read : (n : ℕ) → n < 2 ^ 64 → decimal (printed n) ≡ Some n
printed_read n h =
    let s = spells_decimal n h in
    rw (some_not_nil (printed n) s.some, s.digits_only, s.number, lt_true n 18446744073709551616 (omega arith)) refl

-- a header line with a number
pub number_line : (name : List ℕ) (n : ℕ) → n < 2 ^ 64 → has_no_lf name ≡ true → NoLf (name ++ printed n)
number_line name n h e = lone_append name (printed n) (lone_of name e) (lone_digits (printed n) (spells_decimal n h).digits_only)

pub short_line : (name : List ℕ) (n : ℕ) → n < 2 ^ 64 → length name ≤ 100 → length (name ++ printed n) ≤ 4096
short_line name n h e = omega (arith, length-append name (printed n), length-decimal-le 20 n (omega arith) (omega arith) h)

abbrev pub numbered : ℕ → Head
numbered n = record (no_head false) { number = Some n }

abbrev pub blocked : ℕ → ℕ → Head
blocked n len = record (numbered n) { prop_len = Some len }

abbrev pub whole : ℕ → ℕ → Head
whole n len = record (blocked n len) { content_len = Some len }

number_says : (n : ℕ) → n ≤ 65535 → line_says (no_head false) (codes "Revision-number: " ++ printed n) ≡ Ok (numbered n)
number_says n h = rw (printed_read n (omega arith), le_true n 65535 h) refl

block_says : (n len : ℕ) → len < 2 ^ 64 → line_says (numbered n) (codes "Prop-content-length: " ++ printed len) ≡ Ok (blocked n len)
block_says n len h = rw (printed_read len h) refl

content_says : (n len : ℕ) → len < 2 ^ 64 → line_says (blocked n len) (codes "Content-length: " ++ printed len) ≡ Ok (whole n len)
content_says n len h = rw (printed_read len h) refl

abbrev pub entry_lines : ℕ → ℕ → List (List ℕ)
entry_lines n len = (codes "Revision-number: " ++ printed n) ∷ (codes "Prop-content-length: " ++ printed len) ∷ (codes "Content-length: " ++ printed len) ∷ []

pub entry_head : (n len : ℕ) → n ≤ 65535 → len < 2 ^ 64 → HeadOf (no_head false) (entry_lines n len) (whole n len)
entry_head n len a b = (
  number_line (codes "Revision-number: ") n (omega arith) refl,
  omega (arith, length-append (codes "Revision-number: ") (printed n)),
  short_line (codes "Revision-number: ") n (omega arith) (omega arith),
  numbered n,
  number_says n a,
  (
    number_line (codes "Prop-content-length: ") len b refl,
    omega (arith, length-append (codes "Prop-content-length: ") (printed len)),
    short_line (codes "Prop-content-length: ") len b (omega arith),
    blocked n len,
    block_says n len b,
    (number_line (codes "Content-length: ") len b refl, omega (arith, length-append (codes "Content-length: ") (printed len)), short_line (codes "Content-length: ") len b (omega arith), whole n len, content_says n len b, refl),
  ),
)
