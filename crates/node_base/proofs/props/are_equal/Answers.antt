use Rattle.std.proofs.Common.{sym, ◌∙◌, arith}
use Rattle.node_base.proofs.EntryLemmas.{not_different, same_so_far}
use Rattle.node_base.proofs.props.are_equal.Goals as goal

pub loop-i-preserved : goal.loop-i-preserved
loop-i-preserved c =
    let names = sym c.as_bytes.ensures ∙ not_different _ _ c.if-ne.ensures ∙ c.as_bytes-in-loop-i.ensures in
    let values = sym c.as_slice.ensures ∙ not_different _ _ c.if-ne-2.ensures ∙ c.as_slice-else-ne.ensures in
    same_so_far c.args.these.now c.args.those.now c.loop-i.i c.index-these-i.result c.index-those-i.result c.loop-i.invariant (omega arith) (omega arith) c.index-these-i.is c.index-those-i.is names values
