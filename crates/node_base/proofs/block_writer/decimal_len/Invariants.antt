use Rattle.std.proofs.Common.{◌≡◌, ◌+◌, ◌≤◌, length}
use Rattle.std.specs.Fmt.{decimal}
use Rattle.node_base.proofs.block_writer.decimal_len.Given as goal

abbrev pub invariant-loop-rest : goal.invariant-loop-rest
invariant-loop-rest l = record { small : l.rest ≤ l.n; some : 1 ≤ l.len; so_far : l.len + length (decimal l.rest) ≡ length (decimal l.n) + 1 }

abbrev pub decreases-loop-rest : goal.decreases-loop-rest
decreases-loop-rest l = l.rest
