use Rattle.std.proofs.Common.{◌≡◌, ◌≤◌, ◌-◌, [], false}
use Rattle.ra_item.specs.ItemStreams.{reader_of, is_spent, ahead, left, Takes}
use Rattle.ra_item.proofs.stream.ItemStream.fill.Given as goal

abbrev pub invariant-loop-fault : goal.invariant-loop-fault
invariant-loop-fault g l =
    Takes [] (g.I.Input.remaining (reader_of l.fn.self)) (g.I.Input.remaining (reader_of l.self)) (ahead l.fn.self) (ahead l.self)
    × (is_spent l.self ≡ false)
    × (g.I.Input.failures (reader_of l.fn.self) ≤ g.I.Input.failures (reader_of l.self))
    × (left l.self ≤ left l.fn.self)

abbrev pub decreases-loop-fault : goal.decreases-loop-fault
decreases-loop-fault g l = 1099511627775 - l.self.source.reads
