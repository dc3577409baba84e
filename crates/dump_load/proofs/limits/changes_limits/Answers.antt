use Rattle.dump_load.proofs.Within.{small_push}
use Rattle.dump_load.proofs.limits.changes_limits.Goals as goal

pub loop-change-preserved : goal.loop-change-preserved
loop-change-preserved c = small_push c.args.changes.now c.loop-change.change-index c.change-item.result _ c.loop-change-test.true c.change-item.is c.loop-change.invariant c.change_limits.ensures
