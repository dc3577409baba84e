use Rattle.std.proofs.Common.{length, arith}
use Rattle.dump_text.proofs.StreamRuns.{lone_before}
use Rattle.dump_text.proofs.state.line_end.Goals as goal

pub returns-in-Some-clause-free : goal.returns-in-Some-clause-free
returns-in-Some-clause-free c = lone_before c.in-Some.k c.args.piece.now (λ j h. c.in-Some.ensures.0.before j (omega arith) h)

pub returns-in-None-clause-free : goal.returns-in-None-clause-free
returns-in-None-clause-free c = lone_before (length c.args.piece.now) c.args.piece.now (λ j h. c.in-None.ensures j (omega arith) h)
