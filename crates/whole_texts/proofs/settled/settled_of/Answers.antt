use Rattle.whole_texts.proofs.Reversed.{one_more, all_settled}
use Rattle.whole_texts.proofs.settled.settled_of.Goals as goal

pub loop-read-preserved : goal.loop-read-preserved
loop-read-preserved c =
    one_more c.args.nodes.now c.loop-read.read-index c.read-item.result c.loop-read.settled.items _ c.loop-read-test.true c.read-item.is c.loop-read.invariant c.in_ok-keep_settled.ensures

pub returns : goal.returns
returns c = all_settled c.args.nodes.now c.loop-read.read-index c.loop-read.settled.items c.loop-read-test.false c.loop-read.invariant
