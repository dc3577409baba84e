-- Bytes of words, numbers and white space.
use Rattle.std.specs.Prelude.{ℕ, ◌+◌, ◌*◌, ◌-◌, ◌==◌, ◌&&◌, ◌||◌, nat_le, Bool, true, false, List, [], ◌∷◌}

-- space and LF
abbrev pub is_white : ℕ → Bool
is_white b = b == 32 || b == 10

-- 0 to 9
abbrev pub is_digit : ℕ → Bool
is_digit b = nat_le 48 b && nat_le b 57

-- A to Z and a to z
abbrev pub is_letter : ℕ → Bool
is_letter b = (nat_le 65 b && nat_le b 90) || (nat_le 97 b && nat_le b 122)

-- letters, digits and the hyphen
abbrev pub is_word_byte : ℕ → Bool
is_word_byte b = is_letter b || is_digit b || b == 45

-- each byte is one of a kind
abbrev pub all_bytes : (ℕ → Bool) → List ℕ → Bool
all_bytes kind [] = true
all_bytes kind (b ∷ bs) = kind b && all_bytes kind bs

-- a letter, and then letters, digits and hyphens
abbrev pub is_word : List ℕ → Bool
is_word [] = false
is_word (b ∷ bs) = is_letter b && all_bytes is_word_byte bs

-- the number that digits spell, behind one that was read before
abbrev pub number_after : ℕ → List ℕ → ℕ
number_after n [] = n
number_after n (d ∷ ds) = number_after (n * 10 + (d - 48)) ds

-- the number that digits spell
abbrev pub number_of : List ℕ → ℕ
number_of = number_after 0
