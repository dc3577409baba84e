use Rattle.std.proofs.Common.{subst, ◌∙◌}
use Rattle.node_base.specs.Props.{IsProps}
use Rattle.node_base.proofs.CopiedProps.{copied_is_props}
use Rattle.node_base.proofs.props.Props.copied_beside.Goals as goal

pub invariant_of-result : goal.invariant_of-result
invariant_of-result c =
    let own = subst IsProps c.self.view_is c.self.invariant in
    let copied = subst IsProps c.copied.view_is c.copied.invariant in
    rw (c.in_ok-list-2.ensures.ok, c.in_ok-put_sync.ensures c.args.copied.now c.in_ok-list.ensures) (copied_is_props c.args.self.now c.args.copied.now own copied)

pub returns : goal.returns
returns c = c.in_ok-list-2.ensures.ok ∙ c.in_ok-put_sync.ensures c.args.copied.now c.in_ok-list.ensures
