use Rattle.std.proofs.Common.{subst}
use Rattle.node_base.specs.Props.{IsProps}
use Rattle.node_base.proofs.PropLemmas.{props_without}
use Rattle.node_base.proofs.props.Props.remove_in_copy.Goals as goal

pub invariant_of-self : goal.invariant_of-self
invariant_of-self c =
    let old = subst IsProps c.self.view_is c.self.invariant in
    rw (c.in_ok-new.ensures.ok, c.remove.ensures.removed, c.in_ok-rest.ensures) (props_without c.args.self.now c.args.name.now old)
