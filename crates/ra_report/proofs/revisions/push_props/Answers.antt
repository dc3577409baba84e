use Rattle.std.proofs.Common.{sym, ◌∙◌}
use Rattle.ra_history.proofs.Sharing.{pushed}
use Rattle.ra_denial.proofs.Causes.{is_there}
use Rattle.ra_report.proofs.Sharing.{props_more}
use Rattle.ra_report.proofs.revisions.push_props.Goals as goal

pub returns-clause-found : goal.returns-clause-found
returns-clause-found g c =
    λ x e. let f = c.in-Ok.ensures.props x e in (
      is_there x c.args.number f.0,
      λ k. props_more x c.args.number c.in-Ok.props c.args.all.now.items c.push.new.self.items f.0 f.1
          (pushed c.push.result _ _ _ c.push.ensures.items (sym c.is_err.ensures.value ∙ c.if-is_err.false)) k,
    )
