use Rattle.std.proofs.Common.{arith}
use Rattle.std.proofs.lemmas.Result.{err_from_is_err_and}
use Rattle.ra_item.specs.ItemStreams.{reader_of, is_spent, ahead}
use Rattle.ra_item.proofs.Streaming.{goes_on, stops_later}
use Rattle.ra_item.proofs.stream.ItemStream.fill.Goals as goal

pub loop-fault-preserved : goal.loop-fault-preserved
loop-fault-preserved g c =
    let i = c.loop-fault.invariant in (
      goes_on (g.I.Input.remaining (reader_of c.args.self.now)) (g.I.Input.remaining (reader_of c.loop-fault.self)) (g.I.Input.remaining (reader_of c.pull.new.self)) (ahead c.args.self.now) (ahead c.loop-fault.self) (ahead c.pull.new.self) i.0 (rw c.if-not-branch.false at c.in_ok-pull.ensures.fills),
      c.in_ok-pull.ensures.goes_on,
      omega (arith, i.2, c.pull.ensures.failures),
      omega (arith, i.3, c.in_ok-pull.ensures.fewer c.if-not-branch.false),
    )

pub returns-in_err-pull-clause-fills : goal.returns-in_err-pull-clause-fills
returns-in_err-pull-clause-fills g c =
    let p = err_from_is_err_and c.from_residual.result c.from_residual.ensures.1 in
    let i = c.loop-fault.invariant in
    let fails = g.I.Input.failures in
    rw (p.1, p.2)
    (stops_later (g.I.Input.remaining (reader_of c.args.self.now)) (g.I.Input.remaining (reader_of c.loop-fault.self)) (g.I.Input.remaining (reader_of c.pull.new.self)) (ahead c.args.self.now) (ahead c.loop-fault.self) (is_spent c.args.self.now) (is_spent c.loop-fault.self) (fails (reader_of c.args.self.now)) (fails (reader_of c.loop-fault.self)) (fails (reader_of c.pull.new.self)) (g.I.Input.reads (reader_of c.pull.new.self)) c.in_err-pull.field-0.0 i.0 i.1 i.2 c.in_err-pull.ensures.fills)
