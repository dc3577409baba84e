use Rattle.std.proofs.Common.{◌≡◌, drop}
use Rattle.svndiff.specs.Making.{run}
use Rattle.svndiff.proofs.instructions.run_all.Given as goal

abbrev pub invariant-loop-instruction : goal.invariant-loop-instruction
invariant-loop-instruction l = run l.view (record { made = l.made; new = l.rest }) (drop l.instruction-index l.instructions) ≡ run l.view (record { made = l.fn.made; new = l.new }) l.instructions
