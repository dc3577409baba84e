-- Decimal numbers as they are read.
use Rattle.std.specs.Fmt as fmt
use Rattle.std.specs.Option.{option_and_then}
use Rattle.std.specs.Prelude.{◌≡◌, ◌++◌, replicate, ℕ, ◌+◌, ◌*◌, ◌-◌, Bool, true, false, not, ◌&&◌, nat_le, nat_lt, List, [], ◌∷◌, Option, Some, None, if◌then◌else◌}
use Rattle.node_base.specs.declared.limits.TheConstants.{REVISION}

-- whether a byte is a decimal digit
abbrev pub is_digit : ℕ → Bool
is_digit b = nat_le 48 b && nat_le b 57

-- whether a test holds of every byte
abbrev pub all_bytes : (ℕ → Bool) → List ℕ → Bool
all_bytes f [] = true
all_bytes f (b ∷ bs) = f b && all_bytes f bs

-- whether there is nothing
abbrev pub is_nil : List ℕ → Bool
is_nil [] = true
is_nil (b ∷ bs) = false

-- the number that digits spell, behind one that was read before
abbrev pub number_after : ℕ → List ℕ → ℕ
number_after n [] = n
number_after n (d ∷ ds) = number_after (n * 10 + (d - 48)) ds

-- the number that digits spell, leading zeros or not
abbrev pub number_of : List ℕ → ℕ
number_of = number_after 0

-- the number that a value spells: one digit or more and nothing else, below 2 ^ 64
abbrev pub decimal : List ℕ → Option ℕ
decimal ds = if not (is_nil ds) && all_bytes is_digit ds && nat_lt (number_of ds) 18446744073709551616 then Some (number_of ds) else None

-- a number with one more digit behind it, where the byte is a digit and the number is below 2 ^ 64
abbrev pub with_digit : ℕ → ℕ → Option ℕ
with_digit n b = if is_digit b && nat_lt (n * 10 + (b - 48)) 18446744073709551616 then Some (n * 10 + (b - 48)) else None

-- the revision number that a value spells: at most 65,535
abbrev pub rev_read : List ℕ → Option ℕ
rev_read ds = option_and_then (λ n. if nat_le n REVISION then Some n else None) (decimal ds)

-- digits that spell a number: zeros, and then the number as it is written
pub record SpellsNumber (n : ℕ) (ds : List ℕ) : Type 0 where
  pub zeros : ℕ
  pub written : ds ≡ replicate zeros 48 ++ fmt.decimal n
