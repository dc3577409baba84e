use Rattle.std.proofs.Common.{true, is_some, refl, sym, ap, subst, ◌∙◌, arith}
use Rattle.std.specs.Prelude.{slice_get}
use Rattle.dump_load.specs.Changes.{governing}
use Rattle.path_history.specs.Places.{place, origin, IsPastLimits}
use Rattle.path_history.specs.Stretches.{IsStretch}
use Rattle.path_history.proofs.Stretching.{Backing, backing_first, backing_on, governed_ends, stretch_too_long}
use Rattle.path_history.proofs.stretch.stretch_of.Goals as goal

pub loop-number-init : goal.loop-number-init
loop-number-init g c = (refl, subst (Backing (g.S.Sets.sets c.args.sets.now) c.args.from) (sym c.get-number.ensures.number) (backing_first (g.S.Sets.sets c.args.sets.now) c.args.from))

pub loop-number-preserved : goal.loop-number-preserved
loop-number-preserved g c =
    let sets = g.S.Sets.sets c.args.sets.now in
    let set = c.in-Some.set.now in (
      c.loop-number.invariant.0,
      backing_on sets c.args.from c.loop-number.number c.loop-number.invariant.1 set (c.in-Some.ensures ∙ ap (slice_get sets) c.new.ensures) _
          (sym c.if-is_governed.false ∙ c.is_governed.ensures ∙ ap (λ p. is_some (governing set p)) c.loop-number.invariant.0)
          (omega (arith, c.loop-number-test.true))
          refl,
    )

pub returns-in-Ok-clause-stretch : goal.returns-in-Ok-clause-stretch
returns-in-Ok-clause-stretch g c =
    let sets = g.S.Sets.sets c.args.sets.now in
    let set = c.in-Some.set.now in
    subst (λ n. IsStretch sets c.args.from n c.in-Ok.stretch.before) (sym (c.in-Ok.ensures.first ∙ c.new-then-is_governed.ensures))
    (governed_ends sets c.args.from c.loop-number.number c.loop-number.invariant.1 set (c.in-Some.ensures ∙ ap (slice_get sets) c.new.ensures) c.in-Ok.stretch.before
    (sym c.if-is_governed.true ∙ c.is_governed.ensures ∙ ap (λ p. is_some (governing set p)) c.loop-number.invariant.0)
    (c.in-Ok.ensures.before ∙ (λ i. origin true set (place (c.new-then-is_governed.ensures i) (c.loop-number.invariant.0 i)))))

pub returns-in-Err-clause-refused : goal.returns-in-Err-clause-refused
returns-in-Err-clause-refused g c e =
    let sets = g.S.Sets.sets c.args.sets.now in
    let set = c.in-Some.set.now in
    stretch_too_long sets c.args.from c.loop-number.number c.loop-number.invariant.1 set (c.in-Some.ensures ∙ ap (slice_get sets) c.new.ensures)
    (subst IsPastLimits (λ i. origin true set (place (c.new-then-is_governed.ensures i) (c.loop-number.invariant.0 i))) (c.in-Err.ensures.refused e))
