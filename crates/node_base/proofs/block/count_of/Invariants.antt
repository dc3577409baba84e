use Rattle.std.proofs.Common.{◌≡◌, ◌≤◌, drop}
use Rattle.node_base.specs.Numbers.{number_of, number_after}
use Rattle.node_base.proofs.block.count_of.Given as goal

abbrev pub invariant-loop-d : goal.invariant-loop-d
invariant-loop-d l = (l.n ≤ l.limit) × (number_after l.n (drop l.d-index l.digits) ≡ number_of l.digits)
