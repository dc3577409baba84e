use Rattle.std.proofs.Common.{length, ap, arith}
use Rattle.node_base.proofs.BlockLengths.{few_entries}
use Rattle.node_base.proofs.props.Props.block_len.Goals as goal

pub overflow_add-len : goal.overflow_add-len
overflow_add-len c =
    let few = few_entries c.args.self.now c.entries-key-items.ensures.rules in
    omega (arith, few, ap length c.entries-key-items.ensures.entries, c.loop-key.invariant.small, c.property_len-len.ensures.small)
