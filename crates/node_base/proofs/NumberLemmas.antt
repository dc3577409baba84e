-- What follows from the definitions of numbers.
use Rattle.std.proofs.Common.{◌≡◌, ℕ, suc, ◌+◌, ◌-◌, ◌*◌, ◌^◌, ◌≤◌, ◌<◌, length, drop, get_or, drop-cons, Bool, true, false, cond, ◌&&◌, nat_lt, List, [], ◌∷◌, Option, Some, None, refl, ap, ◌∙◌, arith}
use Rattle.std.proofs.lemmas.Bool.Decides.{nat_tests}
use Rattle.std.proofs.Math.ListN.{drop_of_length-le}
use Rattle.std.specs.Option.{option_and_then}
use Rattle.node_base.specs.Numbers.{is_digit, all_bytes, number_after, with_digit}

-- the number that digits spell behind one that was read, below 2 ^ 64
abbrev pub decimal_after : ℕ → List ℕ → Option ℕ
decimal_after n ds = cond (all_bytes is_digit ds && nat_lt (number_after n ds) 18446744073709551616) (Some (number_after n ds)) None

pub number_after-ge : (n : ℕ) (ds : List ℕ) → n ≤ number_after n ds
number_after-ge n [] = omega arith
number_after-ge n (d ∷ ds) = omega (arith, number_after-ge (n * 10 + (d - 48)) ds)

-- what passes 2 ^ 64 stays past it
stays_past : (n : ℕ) (ds : List ℕ) → nat_lt n 18446744073709551616 ≡ false → nat_lt (number_after n ds) 18446744073709551616 ≡ false
stays_past n ds e = let more : n ≤ number_after n ds = number_after-ge n ds in grind (arith, nat_tests)

never : (m : ℕ) (a : Bool) → cond (a && false) (Some m) None ≡ None
never m true = refl
never m false = refl

pub one_more : (n d : ℕ) (ds : List ℕ) → decimal_after n (d ∷ ds) ≡ option_and_then (λ m. decimal_after m ds) (with_digit n d)
one_more n d ds = by_cases (is_digit d) (nat_lt (n * 10 + (d - 48)) 18446744073709551616) refl
  where
    by_cases : (a b : Bool) → nat_lt (n * 10 + (d - 48)) 18446744073709551616 ≡ b → cond (a && all_bytes is_digit ds && nat_lt (number_after (n * 10 + (d - 48)) ds) 18446744073709551616) (Some (number_after (n * 10 + (d - 48)) ds)) None ≡ option_and_then (λ m. decimal_after m ds) (cond (a && b) (Some (n * 10 + (d - 48))) None)
    by_cases true true e = refl
    by_cases true false e = rw (stays_past (n * 10 + (d - 48)) ds e) (never (number_after (n * 10 + (d - 48)) ds) (all_bytes is_digit ds))
    by_cases false b e = refl

-- a byte that isn't taken
pub stops : (bs : List ℕ) (i n : ℕ) → i < length bs → with_digit n (get_or bs i 0) ≡ None → decimal_after n (drop i bs) ≡ None
stops bs i n inside e = rw (drop-cons bs i 0) (one_more n (get_or bs i 0) (drop (suc i) bs) ∙ ap (option_and_then (λ m. decimal_after m (drop (suc i) bs))) e)

-- the end
pub ends : (bs : List ℕ) (i n : ℕ) → length bs ≤ i → n < 2 ^ 64 → decimal_after n (drop i bs) ≡ Some n
ends bs i n past small = rw (drop_of_length-le bs past) (at_end n (grind (arith, nat_tests)))
  where
    at_end : (n : ℕ) → nat_lt n 18446744073709551616 ≡ true → cond (nat_lt n 18446744073709551616) (Some n) None ≡ Some n
    at_end n e = rw e refl
