use Rattle.std.proofs.Common.{ap, ◌∙◌}
use Rattle.std.specs.FinMap as map
use Rattle.node_base.proofs.CopiedProps.{synced, all_synced, synced_is}
use Rattle.node_base.proofs.props.Props.put_sync.Goals as goal

pub returns : goal.returns
returns c copied e =
    all_synced c.entries-name-items.result.now _ c.args.list.now _ c.loop-name-test.false c.loop-name.invariant
    ∙ ap (λ es. synced es c.args.list.now) c.entries-name-items.ensures.entries
    ∙ ap (synced (map.entries c.args.self.now)) e
    ∙ synced_is c.args.self.now copied
