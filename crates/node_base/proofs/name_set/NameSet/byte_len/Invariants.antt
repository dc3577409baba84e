use Rattle.std.proofs.Common.{◌≡◌, ◌+◌, ◌*◌, ◌≤◌, length}
use Rattle.node_base.specs.Entries.{blank, entry_bytes}
use Rattle.node_base.proofs.name_set.NameSet.byte_len.Given as goal

abbrev pub invariant-loop-name : goal.invariant-loop-name
invariant-loop-name l = record { small : l.len + 255 * length l.name-iterator ≤ 255 * length l.initial.name-iterator; is : l.len + entry_bytes (blank l.name-iterator) ≡ entry_bytes (blank l.initial.name-iterator) }
