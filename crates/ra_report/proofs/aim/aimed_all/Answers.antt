use Rattle.std.proofs.Common.{map}
use Rattle.browse_wire.specs.Reports.{report_as}
use Rattle.ra_report.proofs.Targets.{one_aimed, aim_stops, all_aimed}
use Rattle.ra_report.proofs.aim.aimed_all.Goals as goal

pub loop-command-preserved : goal.loop-command-preserved
loop-command-preserved c =
    one_aimed c.args.target.now (map report_as c.loop-command.all.items) (map report_as c.push_aimed.new.all.items) c.args.report.now c.loop-command.command-index c.command-item.result (map report_as c.args.report.now) c.loop-command-test.true c.command-item.is c.in-Ok.ensures.0 c.in-Ok.ensures.1 c.loop-command.invariant

pub returns-in-Err : goal.returns-in-Err
returns-in-Err c =
    aim_stops c.args.target.now (map report_as c.loop-command.all.items) c.args.report.now c.loop-command.command-index c.command-item.result (map report_as c.args.report.now) c.in-Err.stop c.loop-command-test.true c.command-item.is c.in-Err.ensures c.loop-command.invariant

pub returns : goal.returns
returns c =
    all_aimed c.args.target.now (map report_as c.loop-command.all.items) c.args.report.now c.loop-command.command-index (map report_as c.args.report.now) c.loop-command-test.false c.loop-command.invariant
