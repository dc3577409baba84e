use Rattle.std.proofs.Common.{take}
use Rattle.path_history.specs.Logs.{HasLogged}
use Rattle.path_history.proofs.log.gather.Given as goal

abbrev pub invariant-loop-place : goal.invariant-loop-place
invariant-loop-place g l = HasLogged (g.S.Sets.sets l.sets) l.asked (take l.place-index l.places) l.numbers.items
