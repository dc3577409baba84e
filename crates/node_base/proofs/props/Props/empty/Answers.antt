use Rattle.node_base.proofs.PropLemmas.{empty_is_props}
use Rattle.node_base.proofs.props.Props.empty.Goals as goal

pub invariant_of-result : goal.invariant_of-result
invariant_of-result c = empty_is_props
