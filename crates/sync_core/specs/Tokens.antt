-- Tokens of jobs.
use Rattle.std.specs.Prelude.{ℕ, ◌==◌, ◌&&◌, nat_le, not, Bool, List, length}
use Rattle.std.specs.List.{list_all}

-- printable ASCII without blanks
abbrev pub is_token_byte : ℕ → Bool
is_token_byte b = nat_le 33 b && nat_le b 126

-- 1 to 255 such bytes
abbrev pub is_token : List ℕ → Bool
is_token bytes = not (length bytes == 0) && nat_le (length bytes) 255 && list_all is_token_byte bytes
