use Rattle.dump_load.specs.Walk.{Walked}
use Rattle.dump_load.proofs.load.apply.Given as goal

abbrev pub invariant-loop-change : goal.invariant-loop-change
invariant-loop-change l = Walked l.trees l.changes l.change-index l.tree
