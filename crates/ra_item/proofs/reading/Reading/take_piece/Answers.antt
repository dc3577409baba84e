use Rattle.std.proofs.Common.{◌≡◌, ◌+◌, ◌-◌, ◌∙◌, sym, ap, take, drop, take-append-drop, arith}
use Rattle.std.proofs.lemmas.Result.{err_from_is_err_and}
use Rattle.ra_item.specs.Streams.{Reads}
use Rattle.ra_item.proofs.Runs.{kept, stepped, refused_at}
use Rattle.ra_item.proofs.reading.Reading.take_piece.Goals as goal

pub returns-in_err-keep-clause-front : goal.returns-in_err-keep-clause-front
returns-in_err-keep-clause-front c =
    let p = err_from_is_err_and c.from_residual.result c.from_residual.ensures.1 in
    rw p.1 (take c.loop-at.at c.args.piece.now, drop c.loop-at.at c.args.piece.now, c.loop-at.self, sym (take-append-drop c.loop-at.at c.args.piece.now), c.loop-at.invariant.1)

pub loop-at-preserved-then-stretch-gt0 : goal.loop-at-preserved-then-stretch-gt0
loop-at-preserved-then-stretch-gt0 c =
    let e : c.loop-at.at + c.min-stretch.result - c.loop-at.at ≡ c.min-stretch.result = omega arith in
    (omega arith, kept _ c.loop-at.out.items c.loop-at.self c.keep.new.self c.args.piece.now c.loop-at.at c.min-stretch.result c.loop-at.invariant.1 (λ items s more m. c.room.ensures.keep items s more (omega arith)) (rw e at c.in_ok-keep.ensures))

pub returns-in-Err-clause-on : goal.returns-in-Err-clause-on
returns-in-Err-clause-on c =
    refused_at c.in-Err.fault _ _ c.take_one.new.self c.take_one.new.out.items c.args.piece.now c.loop-at.at c.loop-at.invariant.1 c.loop-at-test.true c.in-Err.ensures.on

pub returns-in-Err-clause-front : goal.returns-in-Err-clause-front
returns-in-Err-clause-front c =
    (take c.loop-at.at c.args.piece.now, drop c.loop-at.at c.args.piece.now, c.loop-at.self, sym (take-append-drop c.loop-at.at c.args.piece.now), c.loop-at.invariant.1 ∙ ap (λ x. Reads x c.loop-at.self) (sym c.in-Err.ensures.out))

pub loop-at-preserved : goal.loop-at-preserved
loop-at-preserved c =
    (omega (arith, c.loop-at-test.true), stepped _ _ c.args.piece.now c.loop-at.at c.loop-at.invariant.1 c.loop-at-test.true ∙ c.in-Ok.ensures.on)
