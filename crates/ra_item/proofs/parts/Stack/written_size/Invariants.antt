use Rattle.std.proofs.Common.{◌≡◌, ◌+◌, drop}
use Rattle.ra_item.specs.Weights.{weigh_all}
use Rattle.ra_item.proofs.parts.Stack.written_size.Given as goal

abbrev pub invariant-loop-row : goal.invariant-loop-row
invariant-loop-row l = l.size + weigh_all (drop l.row-index l.row-items) ≡ weigh_all l.row-items
