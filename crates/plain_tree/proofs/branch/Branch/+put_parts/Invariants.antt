use Rattle.std.proofs.Common.{length}
use Rattle.plain_tree.proofs.branch.Branch.+put_parts.Given as goal

abbrev pub decreases-put_parts : goal.decreases-put_parts
decreases-put_parts l = length l.path.now
