-- The one spelling that is written.
use Rattle.std.specs.Prelude.{ℕ, zero, suc, ◌+◌, ◌/◌, ◌%◌, nat_lt, List, [], ◌∷◌, ◌++◌, length, take, drop, if◌then◌else◌}

-- a number below 2 ^ 21 in as few groups as may be
abbrev pub groups : ℕ → List ℕ
groups n =
    if nat_lt n 128 then n ∷ []
    else if nat_lt n 16384 then (128 + n / 128) ∷ (n % 128) ∷ []
    else (128 + n / 16384) ∷ (128 + (n / 128) % 128) ∷ (n % 128) ∷ []

-- one instruction for so much new data
abbrev pub new_data : ℕ → List ℕ
new_data n = if nat_lt n 64 then (128 + n) ∷ [] else 128 ∷ groups n

-- a window with one instruction
abbrev pub window : List ℕ → List ℕ
window new = 0 ∷ 0 ∷ (groups (length new) ++ (groups (length (new_data (length new))) ++ (groups (length new) ++ (new_data (length new) ++ new))))

-- windows of 65,536 bytes each, the last of what is left
abbrev pub windows_within : ℕ → List ℕ → List ℕ
windows_within zero text = []
windows_within (suc k) [] = []
windows_within (suc k) (b ∷ text) = window (take 65536 (b ∷ text)) ++ windows_within k (drop 65536 (b ∷ text))

abbrev pub windows : List ℕ → List ℕ
windows text = windows_within (length text) text

-- the bytes of version 0
abbrev pub head : List ℕ
head = 83 ∷ 86 ∷ 78 ∷ 0 ∷ []

abbrev pub spelled : List ℕ → List ℕ
spelled text = head ++ windows text
