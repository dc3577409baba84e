use Rattle.std.proofs.Common.{◌≡◌, take}
use Rattle.plain_tree.proofs.branch.Branch.+share.Given as goal

abbrev pub invariant-loop-name : goal.invariant-loop-name
invariant-loop-name l = l.children.items ≡ take l.name-index l.name-items
