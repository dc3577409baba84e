use Rattle.std.proofs.Common.{◌≡◌, ◌-◌, length, drop}
use Rattle.node_base.specs.Blocks.{run_block}
use Rattle.node_base.proofs.block.BlockReader.feed_all.Given as goal

abbrev pub invariant-loop-at : goal.invariant-loop-at
invariant-loop-at l = run_block l.self (drop l.at l.piece) ≡ run_block l.fn.self l.piece

abbrev pub decreases-loop-at : goal.decreases-loop-at
decreases-loop-at l = length l.piece - l.at
