use Rattle.std.proofs.Common.{length, ap, arith}
use Rattle.node_base.proofs.BlockLengths.{few_entries}
use Rattle.node_base.proofs.props.Props.byte_len.Goals as goal

pub overflow_add-len : goal.overflow_add-len
overflow_add-len c =
    let few = few_entries c.args.self.now c.entries-name-items.ensures.rules in
    omega (arith, few, ap length c.entries-name-items.ensures.entries, c.loop-name.invariant.small, c.entry_len-len.ensures.small)

pub returns-clause-small : goal.returns-clause-small
returns-clause-small c =
    let few = few_entries c.args.self.now c.entries-name-items.ensures.rules in
    omega (arith, few, ap length c.entries-name-items.ensures.entries, c.loop-name.invariant.small, c.loop-name.auto.name-index-end)
