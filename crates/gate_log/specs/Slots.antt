-- The layout of the gates: a slot for each entry, and a gate behind the last.
use Rattle.std.specs.Prelude.{◌+◌, ◌-◌, ℕ, List, [], ◌∷◌, ◌++◌, take, drop}
use Rattle.std.specs.Int.{to_be_bytes, w64}
use Rattle.gate_log.specs.declared.version.LogVersion.{LogVersion}
use Rattle.gate_log.specs.Version.{sum_of, gate_place}

-- a length in eight bytes, the highest first
unfoldable pub eight_bytes : ℕ → List ℕ
eight_bytes n = to_be_bytes w64 n

-- the part of a journal between two ends
abbrev pub part : ℕ → ℕ → List ℕ → List ℕ
part from end journal = take (end - from) (drop from journal)

-- the journal's length behind an entry, and the entry's sum
abbrev pub mark : LogVersion → ℕ → List ℕ → List ℕ
mark version end entry = eight_bytes end ++ sum_of version entry

-- an open gate and the mark
abbrev pub slot : LogVersion → ℕ → List ℕ → List ℕ
slot version end entry = 1 ∷ mark version end entry

-- the slots of a journal's entries that end there, of which the first begins at `from`
abbrev pub slots : LogVersion → ℕ → List ℕ → List ℕ → List ℕ
slots version from [] journal = []
slots version from (end ∷ ends) journal = slot version end (part from end journal) ++ slots version end ends journal

-- how long the gates of so many entries are
abbrev pub gates_size : LogVersion → ℕ → ℕ
gates_size version entries = gate_place version entries + 1
