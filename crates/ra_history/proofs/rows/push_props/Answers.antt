use Rattle.std.proofs.Common.{sym, ◌∙◌}
use Rattle.ra_history.proofs.Sharing.{pushed, props_more}
use Rattle.ra_history.proofs.rows.push_props.Goals as goal

pub returns-clause-found : goal.returns-clause-found
returns-clause-found g c =
    λ x e. let f = c.in-Ok.ensures.props x e in (
      f.0,
      λ k. props_more x c.args.number c.in-Ok.next c.args.row.now.items c.push.new.self.items f.0 f.1
          (pushed c.push.result _ _ _ c.push.ensures.items (sym c.is_err.ensures.value ∙ c.if-is_err.false)) k,
    )
