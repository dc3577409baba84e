use Rattle.std.proofs.Common.{◌≡◌, ◌++◌, map, take}
use Rattle.path_history.proofs.log.push_numbers.Given as goal

abbrev pub invariant-loop-place : goal.invariant-loop-place
invariant-loop-place l = l.numbers.items ≡ l.fn.numbers.items ++ map (λ a. a.revision) (take l.place-index l.told)
