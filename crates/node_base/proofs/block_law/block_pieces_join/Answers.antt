use Rattle.node_base.proofs.BlockRuns.{after-append}
use Rattle.node_base.proofs.block_law.block_pieces_join.Goals as goal

pub returns : goal.returns
returns c = after-append
