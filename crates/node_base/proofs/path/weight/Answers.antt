use Rattle.std.proofs.Common.{◌≡◌, ◌+◌, arith, take}
use Rattle.node_base.specs.Limits.{weight}
use Rattle.node_base.proofs.ReadBack.{weight_more}
use Rattle.node_base.proofs.path.weight.Goals as goal

pub loop-name-preserved : goal.loop-name-preserved
loop-name-preserved c =
    let more = weight_more c.args.names.now c.loop-name.name-index c.name-item.result c.loop-name-test.true c.name-item.is in
    let sum : c.loop-name.sum + (c.len.result + 1) ≡ weight (take (c.loop-name.name-index + 1) c.args.names.now) = omega (arith, more, c.loop-name.invariant.sum, c.len.ensures.len) in
    record { sum = sum; small = omega arith }
