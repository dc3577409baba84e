-- How many bytes a reader of a property block keeps.
use Rattle.std.specs.Prelude.{ℕ, ◌+◌, List, length, Option, Some, None}
use Rattle.node_base.specs.Entries.{stored_bytes}
use Rattle.node_base.specs.declared.block.BlockReader.{BlockReader}

-- a name that awaits its value
abbrev pub waiting_bytes : Option (List ℕ) → ℕ
waiting_bytes None = 0
waiting_bytes (Some n) = length n

-- all that a reader keeps: the properties so far, the names that are removed, a name, and what is unfinished
abbrev pub kept_bytes : BlockReader → ℕ
kept_bytes r = stored_bytes r.props + stored_bytes r.removed + waiting_bytes r.name + length r.held

-- what is kept after a call: all, and the properties and the removed names alone where the block is whole
abbrev pub kept_after : Option ℕ → BlockReader → ℕ
kept_after None r = kept_bytes r
kept_after (Some k) r = stored_bytes r.props + stored_bytes r.removed
