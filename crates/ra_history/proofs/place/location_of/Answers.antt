use Rattle.std.proofs.Common.{◌≡◌, true, false, IfOk, sym, subst, arith}
use Rattle.std.proofs.lemmas.Bool.Decides.{nat_tests}
use Rattle.std.specs.Prelude.{nat_lt}
use Rattle.path_history.specs.Histories.{IsPlaceAt}
use Rattle.ra_history.specs.Locations.{IsAt}
use Rattle.ra_history.proofs.place.location_of.Goals as goal

pub returns-then-get-clause-place : goal.returns-then-get-clause-place
returns-then-get-clause-place g c =
    let h = c.if-get.true in
    let p = c.get.ensures.number in
    let q = c.get-2.ensures.number in
    let t : nat_lt c.args.from.now.revision c.args.revision ≡ true = grind (arith, nat_tests) in
    subst (λ b. IfOk c.later.result (λ o. IsAt b (g.S.Sets.sets c.args.sets.now) c.args.from.now c.args.revision o)) (sym t) c.later.ensures.place

pub returns-in-Ok-clause-place : goal.returns-in-Ok-clause-place
returns-in-Ok-clause-place g c =
    let h = c.if-get.false in
    let p = c.get.ensures.number in
    let q = c.get-2.ensures.number in
    let t : nat_lt c.args.from.now.revision c.args.revision ≡ false = grind (arith, nat_tests) in
    subst (λ b. IsAt b (g.S.Sets.sets c.args.sets.now) c.args.from.now c.args.revision c.in-Ok.place) (sym t)
    (subst (λ a. IsPlaceAt (g.S.Sets.sets c.args.sets.now) a c.args.revision c.in-Ok.place) c.in_ok-copy.ensures c.in-Ok.ensures.place)
