use Rattle.std.proofs.Common.{◌∙◌, get_or, refl, sym}
use Rattle.ra_history.proofs.Sharing.{pushed}
use Rattle.ra_browse.proofs.Fronts.{above_all, newest_more, numbers_more}
use Rattle.ra_browse.proofs.location.revisions.Goals as goal

pub returns-in-Err-clause-above : goal.returns-in-Err-clause-above
returns-in-Err-clause-above g c = λ x e. above_all x c.args.peg c.args.numbers.now c.loop-number.number-index 0 (get_or c.args.numbers.now c.loop-number.number-index 0) c.loop-number-test.true refl (c.in-Err.ensures.above x e)

pub loop-number-preserved : goal.loop-number-preserved
loop-number-preserved g c =
    let ns = c.args.numbers.now in
    let i = c.loop-number.number-index in (
      numbers_more ns i 0 (get_or ns i 0) c.in-Ok.next c.loop-number.told.items c.push.new.self.items c.loop-number-test.true refl c.in-Ok.ensures.number
          (pushed c.push.result _ _ _ c.push.ensures.items (sym c.is_err.ensures.value ∙ c.if-is_err.false)) c.loop-number.invariant.0,
      newest_more c.args.peg ns i 0 (get_or ns i 0) c.in-Ok.next c.loop-number.last c.newer-last.result c.loop-number-test.true refl c.in-Ok.ensures.number c.loop-number.invariant.1 c.newer-last.ensures,
    )
