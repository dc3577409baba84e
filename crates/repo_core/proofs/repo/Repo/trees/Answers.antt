use Rattle.std.proofs.Common.{ap, length}
use Rattle.repo_core.proofs.Lists.{length-revisions, trees-revisions}
use Rattle.repo_core.proofs.repo.Repo.trees.Goals as goal

pub returns-clause-trees : goal.returns-clause-trees
returns-clause-trees c =
    let is = trees-revisions c.self.inside.trees.items c.self.inside.maps.items c.self.invariant.maps in
    rw (← c.self.view_is, is) c.as_slice.ensures.value

pub returns-clause-count : goal.returns-clause-count
returns-clause-count c =
    let n = length-revisions c.self.inside.trees.items c.self.inside.maps.items c.self.invariant.maps in
    rw (← c.self.view_is, n) (ap length c.as_slice.ensures.value)
