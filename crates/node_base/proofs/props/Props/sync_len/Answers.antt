use Rattle.node_base.specs.Props.{is_sync}
use Rattle.node_base.proofs.PropLemmas.{counted}
use Rattle.node_base.proofs.props.Props.sync_len.Goals as goal

pub returns : goal.returns
returns c = counted is_sync c.args.self.now c.entries-name-items.result.now _ _ c.entries-name-items.ensures.entries c.loop-name-test.false c.loop-name.invariant.so_far
