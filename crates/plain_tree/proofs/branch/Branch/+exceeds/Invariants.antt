use Rattle.std.proofs.Common.{◌≡◌, drop}
use Rattle.std.specs.List.{list_any}
use Rattle.std.specs.FinMap.{keys}
use Rattle.path_tree.specs.Joined.{below}
use Rattle.path_tree.proofs.Lengths.{too_long, any_long}
use Rattle.plain_tree.proofs.branch.Branch.+exceeds.Given as goal

-- what is left decides
abbrev pub invariant-loop-name : goal.invariant-loop-name
invariant-loop-name l = list_any (too_long l.names l.bytes) (keys l.self) ≡ any_long l.names l.bytes (below (drop l.name-index l.name-items))
