use Rattle.std.proofs.Common.{◌+◌, ◌∙◌, arith}
use Rattle.session_road.specs.Ranges.{IsRevisionOf, IsRange, HasMore}
use Rattle.session_road.proofs.Taken.{goes_on, stops, ends}
use Rattle.session_road.proofs.range.take_each.Goals as goal

pub returns-in-Err-clause-heard : goal.returns-in-Err-clause-heard
returns-in-Err-clause-heard g c =
    let i = c.loop-number.invariant in
    stops {g = g.I.Input} c.args.repo.now c.args.first c.args.last c.new.result i.0 c.args.items.now c.loop-number.items c.take_one.new.items c.loop-number.found.items
    (λ (u : Unit {0}). HasMore (IsRevisionOf c.args.repo.now c.new.result) c.loop-number.found.items c.take_one.new.found.items) (λ (u : Unit {0}). IsRange c.args.repo.now c.args.first c.args.last c.take_one.new.found.items)
    c.in-Err.fault (c.new.ensures ∙ i.1) (omega (arith, c.new.ensures, i.3, c.loop-number-test.true)) i.4 i.5 c.in-Err.ensures.heard

pub loop-number-preserved : goal.loop-number-preserved
loop-number-preserved g c =
    let i = c.loop-number.invariant in (
      i.0 + 1,
      omega (arith, i.1),
      omega (arith, i.1, i.3, c.loop-number-test.true),
      i.3,
      omega (arith, i.4, c.in-Ok.ensures.later),
      goes_on {g = g.I.Input} c.args.repo.now c.args.first c.args.last c.new.result i.0 c.args.items.now c.loop-number.items c.take_one.new.items c.loop-number.found.items c.take_one.new.found.items (c.new.ensures ∙ i.1) (omega (arith, c.new.ensures, i.3, c.loop-number-test.true)) i.5 c.in-Ok.ensures.heard,
    )

pub returns-clause-heard : goal.returns-clause-heard
returns-clause-heard g c =
    let i = c.loop-number.invariant in
    ends {g = g.I.Input} c.args.repo.now c.args.first c.args.last i.0 c.args.items.now c.loop-number.items c.loop-number.found.items (omega (arith, i.1, i.2, i.3, c.loop-number-test.false)) i.5
