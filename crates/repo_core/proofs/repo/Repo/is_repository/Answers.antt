use Rattle.std.proofs.Common.{[], arith, sym, subst}
use Rattle.repo_core.specs.Repository.{AllMade}
use Rattle.repo_core.proofs.Lists.{length-revisions, trees-revisions}
use Rattle.repo_core.proofs.repo.Repo.is_repository.Goals as goal

pub returns : goal.returns
returns c =
    let n = length-revisions c.self.inside.trees.items c.self.inside.maps.items c.self.invariant.maps in
    let trees = trees-revisions c.self.inside.trees.items c.self.inside.maps.items c.self.invariant.maps in
    rw (← c.self.view_is)
    record {
      begun = omega (arith, n, c.self.invariant.begun);
      few = omega (arith, n, c.self.invariant.few);
      made = subst (λ ts. AllMade [] c.self.inside.sets.items ts) (sym trees) c.self.invariant.made;
    }
