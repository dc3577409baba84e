use Rattle.std.proofs.Common.{arith}
use Rattle.fleet_shares.proofs.Alike.{same_more}
use Rattle.fleet_shares.proofs.same.are_same.Goals as goal

pub loop-i-preserved : goal.loop-i-preserved
loop-i-preserved c = same_more c.args.these.now c.args.those.now c.loop-i.i c.index-these-i.result c.index-those-i.result c.loop-i.invariant (omega arith) (omega arith) c.index-these-i.is c.index-those-i.is (c.is_same.ensures.0 c.if-not-is_same.false)
