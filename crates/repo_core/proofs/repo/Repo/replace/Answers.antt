use Rattle.std.proofs.Common.{refl, arith}
use Rattle.repo_core.proofs.Lists.{length-revisions, revisions-set}
use Rattle.repo_core.proofs.repo.Repo.replace.Goals as goal

pub index_mut-requires : goal.index_mut-requires
index_mut-requires c =
    let n = length-revisions c.self.inside.trees.items c.self.inside.maps.items c.self.invariant.maps in
    let there = rw (← c.self.view_is) at c.requires in
    omega (arith, n, there, c.self.invariant.maps, c.index.ensures.number)

pub returns : goal.returns
returns c =
    let set = revisions-set c.self.inside.trees.items c.self.inside.maps.items c.index.result c.args.props c.self.invariant.maps in
    rw (set, c.index.ensures.number, ← c.self.view_is) refl
