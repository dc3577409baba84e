use Rattle.std.proofs.Common.{◌≡◌, ◌+◌, ◌≤◌, drop}
use Rattle.node_base.specs.Entries.{passing}
use Rattle.node_base.specs.Props.{is_sync}
use Rattle.node_base.proofs.props.Props.sync_len.Given as goal

abbrev pub invariant-loop-name : goal.invariant-loop-name
invariant-loop-name l = record { small : l.n ≤ l.name-index; so_far : l.n + passing is_sync (drop l.name-index l.name-items) ≡ passing is_sync l.name-items }
