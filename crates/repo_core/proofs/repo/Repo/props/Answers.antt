use Rattle.std.proofs.Common.{ap, ◌∙◌}
use Rattle.std.specs.Prelude.{slice_get}
use Rattle.repo_core.proofs.Lookups.{item_at}
use Rattle.repo_core.proofs.Lists.{props-revisions}
use Rattle.repo_core.proofs.repo.Repo.props.Goals as goal

pub returns : goal.returns
returns c =
    let is = props-revisions c.self.inside.trees.items c.self.inside.maps.items c.args.number c.self.invariant.maps in
    let found = item_at _ _ _ c.get.ensures.lookup in
    rw (← c.self.view_is, is) (found ∙ ap (λ xs. slice_get xs c.index.result) c.deref.ensures.value ∙ ap (slice_get c.self.inside.maps.items) c.index.ensures.number)
