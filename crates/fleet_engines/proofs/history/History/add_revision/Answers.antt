use Rattle.std.proofs.Common.{ap, map, inr}
use Rattle.std.proofs.lemmas.Result.{err_from_is_err_and}
use Rattle.fleet_engines.specs.Histories.{rev_read, told_of}
use Rattle.fleet_engines.specs.Revisions.{plain}
use Rattle.fleet_engines.proofs.history.History.add_revision.Goals as goal

pub returns-in_err-set-clause-refused : goal.returns-in_err-set-clause-refused
returns-in_err-set-clause-refused c =
    let p = err_from_is_err_and c.from_residual.result c.from_residual.ensures.1 in
    rw (p.1, p.2) (inr (rw (← c.deref.ensures.value) (c.in_err-set.ensures.refused c.args.revision.props)))

pub returns-in-Ok-push-clause-made : goal.returns-in-Ok-push-clause-made
returns-in-Ok-push-clause-made c =
    let r = rev_read c.args.revision in (
      c.in_ok-set.field-0.set,
      c.in_ok-set.field-0.tree,
      rw (← c.deref.ensures.value) (c.in_ok-set.ensures.made c.args.revision.props),
      ap (λ ns. record r { nodes = map plain ns }) c.in-Ok.ensures,
      ap (λ ts. record (told_of c.args.self.now) { trees = ts }) c.in-Ok-push.ensures.items,
    )
