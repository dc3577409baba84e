use Rattle.mirror_engines.specs.Runs.{IsWorked}
use Rattle.fleet_main.proofs.Pulled.{pulled_done, pulled_refused, pulled_rules}
use Rattle.fleet_main.proofs.pulling.pull_opened.Goals as goal

pub returns-clause-done : goal.returns-clause-done
returns-clause-done g c =
    pulled_done g.O.Output.contents g.O.Output.failures (IsWorked c.args.work) c.run_work_from.result.2 c.args.mirror c.run_work_from.result.0 c.args.output c.run_work_from.result.1 c.run_work_from.ensures.ran

pub returns-clause-refused : goal.returns-clause-refused
returns-clause-refused g c =
    pulled_refused g.O.Output.contents g.O.Output.failures (IsWorked c.args.work) c.run_work_from.result.2 c.args.mirror c.run_work_from.result.0 c.args.output c.run_work_from.result.1 c.run_work_from.ensures.ran

pub returns-clause-rules : goal.returns-clause-rules
returns-clause-rules g c =
    pulled_rules g.O.Output.contents g.O.Output.failures (IsWorked c.args.work) c.run_work_from.result.2 c.args.mirror c.run_work_from.result.0 c.args.output c.run_work_from.result.1 c.run_work_from.ensures.ran
