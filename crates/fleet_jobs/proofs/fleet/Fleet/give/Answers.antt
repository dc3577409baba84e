use Rattle.std.proofs.Common.{◌∙◌, ◌++◌, ◌∷◌, [], ◌+◌, None, ap, sym, rules}
use Rattle.fleet_jobs.proofs.Homes.{empty_more}
use Rattle.fleet_jobs.proofs.Tickets.{given_more, counted_more, numbered_more}
use Rattle.fleet_jobs.specs.Fleets.{FleetState}
use Rattle.fleet_jobs.proofs.fleet.Fleet.give.Goals as goal

pub invariant_of-self-in-Ok : goal.invariant_of-self-in-Ok
invariant_of-self-in-Ok g c =
    let was = c.self.invariant in
    let more = counted_more _ _ _ c.in-Ok.ensures.ok in
    let pushed = c.push_reserved.ensures in (
      more ∙ (ap (λ k. k + 1) (was.0 ∙ sym c.reserve.ensures.len) ∙ sym pushed.len),
      numbered_more _ _ _ (given_more _ _ _ c.in-Ok.ensures.ok) was.1 (c.len-given.ensures ∙ sym was.0),
      empty_more _ _ (pushed.items ∙ ap (λ ps. ps ++ None ∷ []) c.reserve.ensures.items) was.2,
      search rules,
      search rules,
      search rules,
    )

pub returns-in-Ok-clause-accepted : goal.returns-in-Ok-clause-accepted
returns-in-Ok-clause-accepted g c = given_more _ _ _ c.in-Ok.ensures.ok ∙ ap (λ (f : FleetState _). f.accepted ++ record { number = c.len-given.result; order = c.args.order } ∷ []) c.self.view_is
