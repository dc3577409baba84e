use Rattle.std.proofs.Common.{◌≡◌, not, ◌+◌, ◌≤◌, drop}
use Rattle.node_base.specs.Entries.{passing}
use Rattle.node_base.specs.Props.{is_sync}
use Rattle.node_base.proofs.props.Props.other_len.Given as goal

abbrev pub invariant-loop-name : goal.invariant-loop-name
invariant-loop-name l = record { small : l.n ≤ l.name-index; so_far : l.n + passing (λ n. not (is_sync n)) (drop l.name-index l.name-items) ≡ passing (λ n. not (is_sync n)) l.name-items }
