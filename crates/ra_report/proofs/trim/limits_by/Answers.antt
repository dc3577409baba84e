use Rattle.ra_report.proofs.Trims.{one_limit, all_limits}
use Rattle.ra_report.proofs.trim.limits_by.Goals as goal

pub loop-command-preserved : goal.loop-command-preserved
loop-command-preserved c =
    one_limit c.args.wanted c.args.sparse c.loop-command.all.items c.push_limit.new.all.items c.args.report.now c.loop-command.command-index c.command-item.result _ c.loop-command-test.true c.command-item.is c.in_ok-push_limit.ensures c.loop-command.invariant

pub returns : goal.returns
returns c =
    all_limits c.args.wanted c.args.sparse c.loop-command.all.items c.args.report.now c.loop-command.command-index _ c.loop-command-test.false c.loop-command.invariant
