use Rattle.ra_serve.proofs.Adding.{more_by}
use Rattle.ra_browse.proofs.answer.reply.Goals as goal

pub returns-in-Reparent-clause-adds : goal.returns-in-Reparent-clause-adds
returns-in-Reparent-clause-adds g c = more_by g.W.Write.contents c.args.out _ c.reparent.result c.reparent.ensures.told

pub returns-in-GetLock-clause-adds : goal.returns-in-GetLock-clause-adds
returns-in-GetLock-clause-adds g c = more_by g.W.Write.contents c.args.out _ c.no_lock.result c.no_lock.ensures

pub returns-in-GetLocks-clause-adds : goal.returns-in-GetLocks-clause-adds
returns-in-GetLocks-clause-adds g c = more_by g.W.Write.contents c.args.out _ c.no_lock-in-GetLocks.result c.no_lock-in-GetLocks.ensures

pub returns-in-GetLocationSegments-clause-adds : goal.returns-in-GetLocationSegments-clause-adds
returns-in-GetLocationSegments-clause-adds g c = more_by g.W.Write.contents c.args.out _ c.deny.result c.deny.ensures

pub returns-in-Update-clause-adds : goal.returns-in-Update-clause-adds
returns-in-Update-clause-adds g c = more_by g.W.Write.contents c.args.out _ c.deny-in-Update.result c.deny-in-Update.ensures

pub returns-in-Switch-clause-adds : goal.returns-in-Switch-clause-adds
returns-in-Switch-clause-adds g c = more_by g.W.Write.contents c.args.out _ c.deny-in-Switch.result c.deny-in-Switch.ensures

pub returns-in-Status-clause-adds : goal.returns-in-Status-clause-adds
returns-in-Status-clause-adds g c = more_by g.W.Write.contents c.args.out _ c.deny-in-Status.result c.deny-in-Status.ensures

pub returns-in-Diff-clause-adds : goal.returns-in-Diff-clause-adds
returns-in-Diff-clause-adds g c = more_by g.W.Write.contents c.args.out _ c.deny-in-Diff.result c.deny-in-Diff.ensures
