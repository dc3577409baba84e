use Rattle.std.proofs.Common.{◌-◌}
use Rattle.node_base.proofs.EntryLemmas.{Searched}
use Rattle.node_base.proofs.prop_list.place_of.Given as goal

abbrev pub invariant-loop-low : goal.invariant-loop-low
invariant-loop-low l = Searched l.entries l.name l.low l.high

abbrev pub decreases-loop-low : goal.decreases-loop-low
decreases-loop-low l = l.high - l.low
