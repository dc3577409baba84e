use Rattle.std.proofs.Common.{◌≡◌, ◌+◌, ◌-◌, ◌∙◌, sym, ap, drop, arith}
use Rattle.std.proofs.lemmas.List.{drop-drop, length-take, take_rest}
use Rattle.std.proofs.lemmas.Result.{err_from_is_err_and}
use Rattle.node_base.specs.Blocks.{Done}
use Rattle.node_base.proofs.BlockRuns.{kept, whole_at, refused_at}
use Rattle.node_base.proofs.block.BlockReader.feed_all.Goals as goal

pub keep_all-requires : goal.keep_all-requires
keep_all-requires c =
    let e : c.loop-at.at + c.min-stretch.result - c.loop-at.at ≡ c.min-stretch.result = omega arith in
    rw e (omega (arith, c.room.ensures.left, length-take c.min-stretch.result (drop c.loop-at.at c.args.piece.now)))

pub loop-at-preserved-then-stretch-gt0 : goal.loop-at-preserved-then-stretch-gt0
loop-at-preserved-then-stretch-gt0 c =
    let e : c.loop-at.at + c.min-stretch.result - c.loop-at.at ≡ c.min-stretch.result = omega arith in
    kept c.loop-at.self c.keep_all.new.self c.args.piece.now c.loop-at.at c.min-stretch.result (λ s more m. c.room.ensures.keep s more (omega arith)) (rw e at c.in_ok-keep_all.ensures) ∙ c.loop-at.invariant

pub returns-then-is_ended_by-clause-run : goal.returns-then-is_ended_by-clause-run
returns-then-is_ended_by-clause-run c =
    let rest = take_rest c.args.piece.now c.loop-at.at in
    sym c.loop-at.invariant ∙ (rw rest at (c.is_ended_by.ensures c.if-is_ended_by.true).1) ∙ ap (Done c.loop-at.self.props c.loop-at.self.removed) (drop-drop 10 c.loop-at.at c.args.piece.now)

pub returns-then-whole-clause-run : goal.returns-then-whole-clause-run
returns-then-whole-clause-run c = sym c.loop-at.invariant ∙ whole_at c.loop-at.self c.take_byte.new.self.props c.take_byte.new.self.removed c.args.piece.now c.loop-at.at c.loop-at-test.true (rw c.if-whole.true at c.in_ok-whole.ensures)

pub returns-in_err-whole-clause-run : goal.returns-in_err-whole-clause-run
returns-in_err-whole-clause-run c =
    let p = err_from_is_err_and c.from_residual-in_err-whole.result c.from_residual-in_err-whole.ensures.1 in
    rw (p.1, p.2) (rw (← c.loop-at.invariant) (refused_at _ c.loop-at.self c.take_byte.new.self c.args.piece.now c.loop-at.at c.loop-at-test.true c.in_err-whole.ensures))
