use Rattle.std.proofs.Common.{◌≡◌, ◌+◌, ◌*◌, ◌≤◌, drop}
use Rattle.node_base.specs.Entries.{entry_bytes}
use Rattle.node_base.proofs.props.Props.byte_len.Given as goal

abbrev pub invariant-loop-name : goal.invariant-loop-name
invariant-loop-name l = record { small : l.len ≤ 65791 * l.name-index; is : l.len + entry_bytes (drop l.name-index l.name-items) ≡ entry_bytes l.name-items }
