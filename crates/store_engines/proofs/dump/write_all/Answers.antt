use Rattle.std.proofs.Common.{◌+◌, ◌∙◌, arith}
use Rattle.repo_store.specs.Words.{repository_of}
use Rattle.store_engines.proofs.Dumping.{written_more}
use Rattle.store_engines.proofs.dump.write_all.Goals as goal

pub loop-number-preserved : goal.loop-number-preserved
loop-number-preserved g c =
    let i = c.loop-number.invariant in (
      i.0 + 1,
      omega (arith, i.1),
      omega (arith, i.1, i.3, c.loop-number-test.true, c.index-number-end.ensures.number),
      i.3,
      written_more (repository_of c.args.store.now) c.args.first i.0 c.new.result (g.O.Output.contents c.args.output.now) (g.O.Output.contents c.loop-number.output) (g.O.Output.contents c.write_one.new.output) (c.new.ensures ∙ i.1) i.4 c.in_ok-write_one.ensures.ok,
      c.in_ok-write_one.ensures.peer ∙ i.5,
    )
