use Rattle.node_base.proofs.BlockWritten.{written_is_read}
use Rattle.node_base.proofs.block_law.blocks_are_written.Goals as goal

pub returns : goal.returns
returns c = written_is_read
