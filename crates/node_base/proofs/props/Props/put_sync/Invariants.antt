use Rattle.std.proofs.Common.{◌≡◌, drop}
use Rattle.node_base.proofs.CopiedProps.{synced}
use Rattle.node_base.proofs.props.Props.put_sync.Given as goal

abbrev pub invariant-loop-name : goal.invariant-loop-name
invariant-loop-name l = synced (drop l.name-index l.name-items) l.list ≡ synced l.name-items l.fn.list
