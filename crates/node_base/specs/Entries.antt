-- Entries in the order of their names, as property maps keep them.
use Rattle.std.specs.Prelude.{ℕ, suc, ◌+◌, Bool, T, List, [], ◌∷◌, length, if◌then◌else◌}
use Rattle.std.specs.FinMap.{FinMap, entries, is_sorted}
use Rattle.std.specs.FinMap.Entries.{by_order}
use Rattle.node_base.specs.Path.{Name, name_cmp}

-- names and values
abbrev pub Entries : Type 0
Entries = List (Name × List ℕ)

-- names, each with an empty value
abbrev pub blank : List Name → Entries
blank [] = []
blank (n ∷ ns) = (n, []) ∷ blank ns

-- the names strictly rise
abbrev pub IsRising : Entries → Type 0
IsRising es = T (is_sorted name_cmp es)

-- how many names at the front are smaller
abbrev pub place : Name → Entries → ℕ
place x [] = 0
place x (e ∷ es) = by_order (name_cmp x e.0) 0 0 (suc (place x es))

-- how many names pass
abbrev pub passing : (Name → Bool) → Entries → ℕ
passing p [] = 0
passing p (e ∷ es) = (if p e.0 then 1 else 0) + passing p es

-- the bytes of names and values
abbrev pub entry_bytes : Entries → ℕ
entry_bytes [] = 0
entry_bytes (e ∷ es) = length e.0 + length e.1 + entry_bytes es

-- the bytes of all that a map has
abbrev pub stored_bytes : FinMap name_cmp (List ℕ) → ℕ
stored_bytes m = entry_bytes (entries m)
