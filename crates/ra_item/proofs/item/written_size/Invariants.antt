use Rattle.std.proofs.Common.{◌≡◌, ◌+◌, drop}
use Rattle.ra_item.specs.Weights.{weigh}
use Rattle.ra_item.proofs.item.written_size.Given as goal

abbrev pub invariant-loop-item : goal.invariant-loop-item
invariant-loop-item l = l.size + weigh (drop l.item-index l.items) ≡ weigh l.items
