use Rattle.std.proofs.Common.{◌≡◌, ◌+◌, ◌*◌, ◌≤◌}
use Rattle.node_base.proofs.BlockLengths.{so_far}
use Rattle.node_base.proofs.props.Props.block_len.Given as goal

abbrev pub invariant-loop-key : goal.invariant-loop-key
invariant-loop-key l = record { small : l.len ≤ 10 + 65809 * l.key-index; is : l.len ≡ so_far l.key-items l.key-index + 10 }
