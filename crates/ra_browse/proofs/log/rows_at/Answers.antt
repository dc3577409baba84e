use Rattle.std.proofs.Common.{◌∙◌, arith}
use Rattle.ra_denial.specs.Denials.{no_revision}
use Rattle.ra_denial.proofs.Stops.{later_stops}
use Rattle.ra_browse.proofs.Exits.{stops_later}
use Rattle.ra_browse.proofs.log.rows_at.Goals as goal

pub returns-in-Err-shared_props-clause-found : goal.returns-in-Err-shared_props-clause-found
returns-in-Err-shared_props-clause-found g c = λ x e. later_stops _ _ _ (no_revision x c.args.last) c.in-Err-shared_props.stop c.shared.ensures.stays.goes.later (c.in-Err-shared_props.ensures.found x (c.shared.ensures.stays.repository ∙ e))

pub returns-in-Err-shared_trees-clause-found : goal.returns-in-Err-shared_trees-clause-found
returns-in-Err-shared_trees-clause-found g c = λ x e.
    let h = c.shared.ensures.stays.goes.later in
    let k = c.shared_props.ensures.stays.goes.later in
    stops_later _ _ _ c.in-Err-shared_trees.stop (no_revision x c.args.last) (omega (arith, h, k)) (c.in-Err-shared_trees.ensures.found x (c.shared_props.ensures.stays.repository ∙ (c.shared.ensures.stays.repository ∙ e)) (c.in-Ok.ensures.found x e).0)

pub returns-in-Ok-shared_trees-clause-found : goal.returns-in-Ok-shared_trees-clause-found
returns-in-Ok-shared_trees-clause-found g c = λ x e.
    let a = c.in-Ok.ensures.found x e in
    let f = c.shared.ensures.stays.repository ∙ e in (
      a.0,
      record {
        sets = a.1;
        props = (c.in-Ok-shared_props.ensures.found x f).1;
        trees = (c.in-Ok-shared_trees.ensures.found x (c.shared_props.ensures.stays.repository ∙ f) a.0).1;
      },
    )
