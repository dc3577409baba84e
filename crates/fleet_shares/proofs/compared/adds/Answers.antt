use Rattle.std.proofs.Common.{arith}
use Rattle.fleet_shares.proofs.Comparing.{adds_all}
use Rattle.fleet_shares.proofs.compared.adds.Goals as goal

pub returns : goal.returns
returns c =
    adds_all c.sets_make_trees.ensures c.args.mirror.now c.args.master.now c.args.above c.is_repository.ensures c.is_repository-2.ensures c.head.ensures.sets c.head-head.ensures.sets
    (λ n from to. c.loop-number.invariant n from (omega (arith, to, c.index-last.ensures.number, c.head.ensures.head, c.loop-number-test.false)))
