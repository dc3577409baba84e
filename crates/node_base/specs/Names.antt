-- What a name of a file or a directory is.
use Rattle.std.specs.Prelude.{◌≢◌, ℕ, ◌≤◌, Bool, false, not, ◌&&◌, ◌==◌, nat_le, [], ◌∷◌, All, codes}
use Rattle.std.specs.Str.{IsUtf8, is_utf8}
use Rattle.std.specs.List.{list_all}
use Rattle.node_base.specs.Path.{Name}
use Rattle.node_base.specs.Numbers.{is_nil}

-- a byte of a name: no control byte, no slash, no DEL
pub record IsNameByte (b : ℕ) : Type 0 where
  pub above_control : 32 ≤ b
  pub no_slash : b ≢ 47
  pub no_delete : b ≢ 127

-- a name: UTF-8 that is not empty, not `.` and not `..`
pub record IsName (n : Name) : Type 0 where
  pub utf8 : IsUtf8 n
  pub some : n ≢ []
  pub no_dot : n ≢ codes "."
  pub no_dots : n ≢ codes ".."
  pub bytes : All IsNameByte n

-- the same as tests
abbrev pub is_name_byte : ℕ → Bool
is_name_byte b = nat_le 32 b && not (b == 47) && not (b == 127)

abbrev pub is_dots : Name → Bool
is_dots [] = false
is_dots (b ∷ []) = b == 46
is_dots (b ∷ c ∷ []) = b == 46 && c == 46
is_dots (b ∷ c ∷ d ∷ n) = false

unfoldable pub is_name : Name → Bool
is_name n = is_utf8 n && not (is_nil n) && not (is_dots n) && list_all is_name_byte n
