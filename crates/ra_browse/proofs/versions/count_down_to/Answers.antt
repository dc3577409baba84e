use Rattle.std.proofs.Common.{◌∙◌, ◌+◌, take, ap, arith}
use Rattle.ra_browse.proofs.FileVersions.{goes_down, ends_down, all_down}
use Rattle.ra_browse.proofs.versions.count_down_to.Goals as goal

pub loop-place-preserved : goal.loop-place-preserved
loop-place-preserved c =
    (ap (λ k. k + 1) c.loop-place.invariant.0, goes_down c.args.first c.args.places.now c.loop-place.place-index c.place-item.result c.loop-place-test.true c.place-item.is c.loop-place.invariant.1 (omega arith))

pub returns-then-get : goal.returns-then-get
returns-then-get c =
    ap (λ k. take (k + 1) c.args.places.now) c.loop-place.invariant.0 ∙ ends_down c.args.first c.args.places.now c.loop-place.place-index c.place-item.result c.loop-place-test.true c.place-item.is c.loop-place.invariant.1 (omega arith)

pub returns : goal.returns
returns c =
    ap (λ k. take k c.args.places.now) c.loop-place.invariant.0 ∙ all_down c.args.first c.args.places.now c.loop-place.place-index c.loop-place-test.false c.loop-place.invariant.1
