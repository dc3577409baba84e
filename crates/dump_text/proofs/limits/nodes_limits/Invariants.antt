use Rattle.std.proofs.Common.{take}
use Rattle.dump_text.specs.Written.{AreKept}
use Rattle.dump_text.proofs.limits.nodes_limits.Given as goal

abbrev pub invariant-loop-node : goal.invariant-loop-node
invariant-loop-node l = AreKept (take l.node-index l.nodes)
