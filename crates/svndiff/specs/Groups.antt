-- Numbers in groups of seven bits, the most significant first, with the high bit set on all but the last byte.
use Rattle.std.specs.Prelude.{◌≡◌, ℕ, ◌+◌, ◌-◌, ◌*◌, ◌<◌, ◌≤◌, ◌^◌, nat_lt, Bool, true, false, List, [], ◌∷◌, length, not, ◌&&◌, if◌then◌else◌}

-- the last byte of a number
abbrev pub is_last : ℕ → Bool
is_last b = nat_lt b 128

-- the seven bits of a byte
abbrev pub group : ℕ → ℕ
group b = if is_last b then b else b - 128

-- the number that groups spell, behind one that was read before
abbrev pub number_after : ℕ → List ℕ → ℕ
number_after n [] = n
number_after n (b ∷ bs) = number_after (n * 128 + group b) bs

-- whether the last byte, and it alone, says that it is the last
abbrev pub ends_once : List ℕ → Bool
ends_once [] = false
ends_once (b ∷ []) = is_last b
ends_once (b ∷ c ∷ bs) = not (is_last b) && ends_once (c ∷ bs)

-- at most ten bytes spell a number below 2 ^ 64, with leading zero groups or without
pub record Spells (bytes : List ℕ) (n : ℕ) : Type 0 where
  pub ends : ends_once bytes ≡ true
  pub short : length bytes ≤ 10
  pub number : number_after 0 bytes ≡ n
  pub small : n < 2 ^ 64
