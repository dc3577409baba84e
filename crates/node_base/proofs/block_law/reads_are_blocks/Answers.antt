use Rattle.node_base.proofs.BlockConverse.{read_is_block}
use Rattle.node_base.proofs.block_law.reads_are_blocks.Goals as goal

pub returns : goal.returns
returns c = read_is_block
