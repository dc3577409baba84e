-- Text that a terminal is given.
use Rattle.std.specs.Prelude.{◌≡◌, ℕ, true, not, List, [], ◌∷◌, if◌then◌else◌, chars, encode_utf8_all}
use Rattle.std.specs.Char.{is_control}
use Rattle.std.specs.Char.Escape.{escape_default}
use Rattle.std.specs.List.{flat_map, list_all}

-- a character that controls a terminal is shown as its escape
abbrev pub shown_char : ℕ → List ℕ
shown_char c = if is_control c then escape_default c else c ∷ []

-- text with each of these shown so
abbrev pub shown : List ℕ → List ℕ
shown text = encode_utf8_all (flat_map shown_char (chars text))

-- no character of the text controls a terminal
abbrev pub HasNoControl : List ℕ → Type 0
HasNoControl text = list_all (λ c. not (is_control c)) (chars text) ≡ true
