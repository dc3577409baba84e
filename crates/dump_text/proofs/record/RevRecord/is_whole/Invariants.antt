use Rattle.std.proofs.Common.{◌≡◌, drop}
use Rattle.dump_text.specs.Written.{are_whole}
use Rattle.dump_text.proofs.record.RevRecord.is_whole.Given as goal

abbrev pub invariant-loop-node : goal.invariant-loop-node
invariant-loop-node l = are_whole (drop l.node-index l.node-items) ≡ are_whole l.node-items
