use Rattle.node_base.proofs.PropLemmas.{few_others}
use Rattle.node_base.proofs.props.Props.has_room_for_other.Goals as goal

pub returns-then-len-lt-PROPS : goal.returns-then-len-lt-PROPS
returns-then-len-lt-PROPS c = few_others c.args.self.now c.len.result 256 c.len.ensures c.if-len-lt-PROPS.true
