use Rattle.std.proofs.Common.{[], sym, ◌∙◌, arith}
use Rattle.repo_core.proofs.Lists.{length-revisions}
use Rattle.repo_core.proofs.MadeTrees.{length-made}
use Rattle.repo_core.proofs.repo.Repo.head.Goals as goal

pub returns-clause-head : goal.returns-clause-head
returns-clause-head c =
    let n = length-revisions c.self.inside.trees.items c.self.inside.maps.items c.self.invariant.maps in
    rw (← c.self.view_is) (omega (arith, n, c.self.invariant.begun, c.self.invariant.few, c.len.ensures, c.new.ensures))

pub returns-clause-begun : goal.returns-clause-begun
returns-clause-begun c =
    let n = length-revisions c.self.inside.trees.items c.self.inside.maps.items c.self.invariant.maps in
    rw (← c.self.view_is) (omega (arith, n, c.self.invariant.begun))

pub returns-clause-few : goal.returns-clause-few
returns-clause-few c =
    let n = length-revisions c.self.inside.trees.items c.self.inside.maps.items c.self.invariant.maps in
    rw (← c.self.view_is) (omega (arith, n, c.self.invariant.few))

pub returns-clause-sets : goal.returns-clause-sets
returns-clause-sets c =
    let n = length-revisions c.self.inside.trees.items c.self.inside.maps.items c.self.invariant.maps in
    rw (← c.self.view_is) (length-made [] c.self.inside.sets.items c.self.inside.trees.items c.self.invariant.made ∙ sym n)
