use Rattle.std.proofs.Common.{◌≡◌, ◌≤◌, ◌+◌, ◌-◌, ℕ}
use Rattle.ra_client.specs.Steps.{IsLater}
use Rattle.session_road.proofs.Taken.{Going}
use Rattle.session_road.proofs.range.take_each.Given as goal

abbrev pub invariant-loop-number : goal.invariant-loop-number
invariant-loop-number g l =
    (count : ℕ)
    × (l.number ≡ l.fn.first + count)
    × (count ≤ l.fn.last + 1 - l.fn.first)
    × (l.number-end ≡ l.fn.last + 1)
    × IsLater {g = g.I.Input} l.fn.items l.items
    × Going {g = g.I.Input} l.fn.repo l.fn.first l.fn.last l.fn.items l.items count l.found.items
