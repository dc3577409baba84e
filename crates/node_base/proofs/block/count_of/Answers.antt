use Rattle.std.proofs.Common.{◌+◌, ◌-◌, ◌*◌, drop, get_or, arith}
use Rattle.std.proofs.lemmas.List.{at_drop_more}
use Rattle.node_base.specs.Numbers.{number_after}
use Rattle.node_base.proofs.Digits.{number_after-ge}
use Rattle.node_base.proofs.block.count_of.Goals as goal

pub returns-then-n-limit-clause-number : goal.returns-then-n-limit-clause-number
returns-then-n-limit-clause-number c =
    let e = at_drop_more (number_after c.loop-d.n) c.args.digits.now c.loop-d.d-index 0 c.loop-d-test.true in
    omega (arith, e, number_after-ge (c.loop-d.n * 10 + (get_or c.args.digits.now c.loop-d.d-index 0 - 48)) (drop (c.loop-d.d-index + 1) c.args.digits.now))
