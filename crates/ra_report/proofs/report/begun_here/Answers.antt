use Rattle.std.proofs.Common.{◌++◌, not}
use Rattle.std.specs.Option.{option_or}
use Rattle.dump_load.specs.Faults.{fault_if}
use Rattle.node_base.specs.Limits.{fits}
use Rattle.ra_serve.specs.Ports.{tree_of}
use Rattle.ra_denial.specs.Denials.{no_revision}
use Rattle.ra_denial.specs.declared.denial.Denial.TheVariants.{NoPath}
use Rattle.ra_report.specs.Reports.{begun_denied}
use Rattle.ra_report.proofs.Calls.{denied_first}
use Rattle.ra_report.proofs.Folders.{here_comes}
use Rattle.ra_report.proofs.report.begun_here.Goals as goal

pub returns-in-Ok-clause-found : goal.returns-in-Ok-clause-found
returns-in-Ok-clause-found g c = λ x e.
    here_comes x c.args.revision (c.args.here.now ++ c.args.target.now) c.in-Ok.source c.args.target.now c.args.shown _ _ c.begun_at.result c.in-Ok.ensures.0 c.in-Ok.ensures.1 (c.begun_at.ensures.found x e)

pub returns-in-Err-clause-found : goal.returns-in-Err-clause-found
returns-in-Err-clause-found g c = λ x e.
    let source = c.args.here.now ++ c.args.target.now in
    denied_first _ _ (fault_if (not (fits source)) NoPath) (option_or (no_revision x c.args.revision) (begun_denied c.args.target.now c.args.shown (tree_of x c.args.revision) source)) c.in-Err.stop c.in-Err.ensures
