use Rattle.std.proofs.Common.{suc, ◌∙◌, ap, take}
use Rattle.ra_denial.specs.Denials.{no_revision}
use Rattle.ra_denial.proofs.Stops.{denies_stops}
use Rattle.ra_browse.specs.Histories.{newest}
use Rattle.ra_browse.proofs.Located.{comes_else}
use Rattle.ra_browse.proofs.location.reached.Goals as goal

pub returns-in-Ok-clause-found : goal.returns-in-Ok-clause-found
returns-in-Ok-clause-found g c = λ x e.
    comes_else _ _ _ (no_revision x (newest c.args.peg c.args.numbers.now)) _ _ c.with_sets.result (ap (no_revision x) c.in-Ok.ensures.newest)
    (λ a i. (i.0 ∙ c.in-Ok.ensures.numbers, i.1 ∙ ap (λ n. take (suc n) x.sets) c.in-Ok.ensures.newest)) (c.with_sets.ensures.found x e)

pub returns-in-Err-clause-found : goal.returns-in-Err-clause-found
returns-in-Err-clause-found g c = λ x e. denies_stops _ _ _ c.in-Err.stop (c.in-Err.ensures.above x e)
