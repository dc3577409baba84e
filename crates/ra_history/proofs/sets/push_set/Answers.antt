use Rattle.std.proofs.Common.{sym, ◌∙◌}
use Rattle.ra_history.proofs.Sharing.{pushed, set_more}
use Rattle.ra_history.proofs.sets.push_set.Goals as goal

pub returns-clause-set : goal.returns-clause-set
returns-clause-set g c =
    λ x e. let f = c.in-Ok.ensures.set x e in (
      f.0,
      λ k. set_more x c.args.number c.in-Ok.set c.args.sets.now.items c.push.new.self.items (c.is_repository.ensures x e) f.0 f.1
          (pushed c.push.result _ _ _ c.push.ensures.items (sym c.is_err.ensures.value ∙ c.if-is_err.false)) k,
    )
