use Rattle.std.proofs.Common.{subst}
use Rattle.node_base.specs.Props.{IsProps}
use Rattle.node_base.proofs.PropLemmas.{without_is_props}
use Rattle.node_base.proofs.props.Props.without_sync.Goals as goal

pub invariant_of-result : goal.invariant_of-result
invariant_of-result c =
    let old = subst IsProps c.self.view_is c.self.invariant in
    rw (c.in_ok-others-2.ensures.ok, c.in_ok-others.ensures) (without_is_props c.args.self.now old)
