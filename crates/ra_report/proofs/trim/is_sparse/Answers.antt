use Rattle.std.proofs.Common.{◌∙◌, sym}
use Rattle.ra_report.specs.Trimmed.{leaves_out}
use Rattle.ra_report.proofs.Trims.{none_holds, one_holds, all_stay}
use Rattle.ra_report.proofs.trim.is_sparse.Goals as goal

pub loop-command-preserved : goal.loop-command-preserved
loop-command-preserved c =
    none_holds leaves_out c.args.report.now c.loop-command.command-index c.command-item.result _ c.loop-command-test.true c.command-item.is (sym c.leaves_out.ensures ∙ c.if-leaves_out.false) c.loop-command.invariant

pub returns-then-leaves_out : goal.returns-then-leaves_out
returns-then-leaves_out c =
    one_holds leaves_out c.args.report.now c.loop-command.command-index c.command-item.result _ c.loop-command-test.true c.command-item.is (sym c.leaves_out.ensures ∙ c.if-leaves_out.true) c.loop-command.invariant

pub returns : goal.returns
returns c =
    all_stay leaves_out c.args.report.now c.loop-command.command-index _ c.loop-command-test.false c.loop-command.invariant
