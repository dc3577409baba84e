use Rattle.std.proofs.Common.{◌≡◌, ◌+◌, ◌≤◌, drop}
use Rattle.node_base.specs.Entries.{passing}
use Rattle.browse_wire.specs.Asks.{revprops_as}
use Rattle.ra_log.specs.Entries.{is_other}
use Rattle.ra_log.proofs.revprops.count_others.Given as goal

abbrev pub invariant-loop-name : goal.invariant-loop-name
invariant-loop-name l = record { small : l.count ≤ l.name-index; so_far : l.count + passing (is_other (revprops_as l.wanted)) (drop l.name-index l.entries) ≡ passing (is_other (revprops_as l.wanted)) l.entries }
