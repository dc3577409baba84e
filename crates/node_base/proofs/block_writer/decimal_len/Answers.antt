use Rattle.std.proofs.Common.{arith}
use Rattle.node_base.proofs.BlockLengths.{one_digit, more_digits, few_digits}
use Rattle.node_base.proofs.block_writer.decimal_len.Goals as goal

pub overflow_add-len : goal.overflow_add-len
overflow_add-len c = omega (arith, c.loop-rest.invariant.so_far, few_digits c.args.n c.requires)

pub loop-rest-preserved : goal.loop-rest-preserved
loop-rest-preserved c =
    let digits = more_digits c.loop-rest.rest c.loop-rest-test.true (omega arith) in
    record { small = omega arith; some = omega arith; so_far = omega (arith, c.loop-rest.invariant.so_far, digits) }

pub returns-clause-len : goal.returns-clause-len
returns-clause-len c = omega (arith, c.loop-rest.invariant.so_far, one_digit c.loop-rest.rest c.loop-rest-test.false)

pub returns-clause-small : goal.returns-clause-small
returns-clause-small c = omega (arith, c.loop-rest.invariant.so_far, one_digit c.loop-rest.rest c.loop-rest-test.false, few_digits c.args.n c.requires)
