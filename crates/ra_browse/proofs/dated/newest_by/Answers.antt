use Rattle.std.proofs.Common.{refl, sym, ap, arith, ◌∙◌, ◌-◌}
use Rattle.repo_core.specs.Repository.{props_at}
use Rattle.ra_browse.specs.Dates.{is_by}
use Rattle.ra_browse.proofs.DatedRevs.{ends_by, goes_by}
use Rattle.ra_browse.proofs.dated.newest_by.Goals as goal

pub returns-in-Ok-true-clause-found : goal.returns-in-Ok-true-clause-found
returns-in-Ok-true-clause-found g c = λ x e k.
    let was = c.loop-number.invariant in
    let props = props_at x.revisions in
    let date = c.args.date.now in
    let n = c.loop-number.number in
    let f = c.in-Ok-true.ensures.found x (was.stays.repository ∙ e) in
    (refl, c.new-in-Ok-true.ensures ∙ sym (was.less x e ∙ ends_by props date n (omega (arith, c.loop-number-test.true)) (ap (λ i. is_by date (props i)) (sym c.new.ensures) ∙ sym f.1 ∙ c.in-Ok-true.field-0-test)))

pub loop-number-preserved : goal.loop-number-preserved
loop-number-preserved g c =
    let was = c.loop-number.invariant in
    let date = c.args.date.now in
    let n = c.loop-number.number in
    record {
      small = omega (arith, was.small);
      less = λ x e.
          let props = props_at x.revisions in
          let f = c.in-Ok-false.ensures.found x (was.stays.repository ∙ e) in
          was.less x e ∙ goes_by props date n (n - 1) (omega (arith, c.loop-number-test.true)) (ap (λ i. is_by date (props i)) (sym c.new.ensures) ∙ sym f.1 ∙ c.in-Ok-false.field-0-test);
      stays = record {
        repository = c.is_by_in.ensures.stays.repository ∙ was.stays.repository;
        goes = record { mirror = c.is_by_in.ensures.stays.goes.mirror ∙ was.stays.goes.mirror; later = omega (arith, was.stays.goes.later, c.is_by_in.ensures.stays.goes.later) };
      };
    }
