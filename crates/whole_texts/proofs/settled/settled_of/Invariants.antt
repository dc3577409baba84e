use Rattle.std.proofs.Common.{◌≡◌, ◌++◌, drop}
use Rattle.whole_texts.specs.Settled.{settled_in}
use Rattle.whole_texts.proofs.settled.settled_of.Given as goal

abbrev pub invariant-loop-read : goal.invariant-loop-read
invariant-loop-read l = l.settled.items ++ settled_in (drop l.read-index l.nodes) ≡ settled_in l.nodes
