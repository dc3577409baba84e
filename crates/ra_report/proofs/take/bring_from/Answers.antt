use Rattle.std.proofs.Common.{sym, subst}
use Rattle.tree_reports.specs.Reports.{content_at}
use Rattle.ra_denial.specs.Stops.{Denies}
use Rattle.ra_report.specs.Reports.{placing_denied}
use Rattle.ra_report.proofs.Takes.{taken_none, taken_denies}
use Rattle.ra_report.proofs.take.bring_from.Goals as goal

pub returns-in-Ok : goal.returns-in-Ok
returns-in-Ok c =
    (taken_none c.args.report.now c.args.path.now c.args.tree.now c.args.source.now c.args.shown _ c.in-Ok.ensures.answer, c.in-Ok.ensures.ok)

pub returns-in-Err : goal.returns-in-Err
returns-in-Err c =
    subst (λ s. Denies (placing_denied (content_at c.args.report.now) c.args.path.now c.args.tree.now c.args.source.now c.args.shown) s) (sym c.stop_of.ensures)
    (taken_denies c.args.report.now c.args.path.now c.args.tree.now c.args.source.now c.args.shown c.in-Err.error c.in-Err.ensures.answer)
