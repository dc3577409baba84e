-- The head of a name: its first bytes as one number, which is as its name is in the order.
use Rattle.std.specs.Prelude.{◌≡◌, ℕ, zero, suc, ◌+◌, ◌*◌, ◌<◌, List, [], ◌∷◌, slice_index}
use Rattle.node_base.specs.Path.{Name}

-- a number with so many further digits to the base 256: bytes, and zeros behind the last
abbrev pub gathered : ℕ → ℕ → List ℕ → ℕ
gathered a zero bs = a
gathered a (suc k) [] = gathered (a * 256) k []
gathered a (suc k) (b ∷ bs) = gathered (a * 256 + b) k bs

-- eight bytes
abbrev pub head : Name → ℕ
head n = gathered 0 8 n

abbrev pub IsBytes : List ℕ → Type 0
IsBytes bs = (i : ℕ) → slice_index bs i < 256

-- the number is the head of the name
pub record IsHeaded (h : ℕ) (n : Name) : Type 0 where
  pub head : h ≡ head n
  pub bytes : IsBytes n
