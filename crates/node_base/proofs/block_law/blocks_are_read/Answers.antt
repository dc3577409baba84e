use Rattle.node_base.proofs.BlockWritten.{block_is_read}
use Rattle.node_base.proofs.block_law.blocks_are_read.Goals as goal

pub returns : goal.returns
returns c = block_is_read
