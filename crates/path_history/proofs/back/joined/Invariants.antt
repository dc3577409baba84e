use Rattle.std.proofs.Common.{◌≡◌, ◌++◌, take}
use Rattle.path_history.proofs.back.joined.Given as goal

abbrev pub invariant-loop-name : goal.invariant-loop-name
invariant-loop-name l = l.path ≡ l.front ++ take l.name-index l.rest
