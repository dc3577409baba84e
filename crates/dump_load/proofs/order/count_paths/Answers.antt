use Rattle.std.proofs.Common.{Bool, sym, arith}
use Rattle.std.specs.FinMap.{len-empty}
use Rattle.node_base.specs.Path.{path_cmp}
use Rattle.dump_load.proofs.order.count_paths.Goals as goal

pub loop-place-init : goal.loop-place-init
loop-place-init c = (sym (len-empty path_cmp Bool), omega arith)
