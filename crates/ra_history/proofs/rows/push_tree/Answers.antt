use Rattle.std.proofs.Common.{sym, ◌∙◌}
use Rattle.ra_history.proofs.Sharing.{pushed, tree_more}
use Rattle.ra_history.proofs.rows.push_tree.Goals as goal

pub returns-clause-found : goal.returns-clause-found
returns-clause-found g c =
    λ x e. let f = c.in-Ok.ensures.tree x e in (
      f.0,
      λ k. tree_more x c.args.number c.in-Ok.next c.args.row.now.items c.push.new.self.items f.0 f.1
          (pushed c.push.result _ _ _ c.push.ensures.items (sym c.is_err.ensures.value ∙ c.if-is_err.false)) k,
    )
