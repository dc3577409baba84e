use Rattle.std.proofs.Common.{◌∙◌, [], sym, ap, subst}
use Rattle.std.specs.FinMap as finite
use Rattle.node_base.specs.Path.{same_path}
use Rattle.ra_denial.specs.Denials.{no_revision}
use Rattle.ra_denial.specs.Stops.{Denies}
use Rattle.ra_report.specs.Switches.{kept, switches_denied}
use Rattle.ra_report.proofs.Calls.{denied_first}
use Rattle.ra_report.proofs.Planning.{plan_kept}
use Rattle.ra_report.proofs.plan.plan_with.Goals as goal

pub returns-in-Ok-clause-found : goal.returns-in-Ok-clause-found
returns-in-Ok-clause-found g c = λ x e.
    let w = c.args.wanted in
    let b = c.args.order.now.keeps in
    let is = c.kept.ensures ∙ ap (kept b) c.as_slice.ensures.value in
    plan_kept x c.kept.result.now b (same_path c.args.order.now.target []) c.is_root.result w c.in-Ok.wanted c.args.copy (switches_denied (finite.get w.tree) w.whole (kept b c.args.copy.switches.items)) _ _ c.planned.result (ap (switches_denied (finite.get w.tree) w.whole) (sym is) ∙ c.in-Ok.ensures.0) is c.in-Ok.ensures.1 c.is_root.ensures (c.planned.ensures.found x e)

pub returns-in-Err-clause-found : goal.returns-in-Err-clause-found
returns-in-Err-clause-found g c = λ x e.
    let w = c.args.wanted in
    let b = c.args.order.now.keeps in
    let is = c.kept.ensures ∙ ap (kept b) c.as_slice.ensures.value in
    denied_first _ _ (switches_denied (finite.get w.tree) w.whole (kept b c.args.copy.switches.items)) (no_revision x w.number) c.in-Err.stop (subst (λ s. Denies (switches_denied (finite.get w.tree) w.whole s) c.in-Err.stop) is c.in-Err.ensures)
