use Rattle.byte_streams.specs.Causes.{Rose}
use Rattle.mirror_engines.specs.Runs.{IsWorked}
use Rattle.repo_store.specs.Words.{repository_of, HasFailed}
use Rattle.fleet_main.specs.Doing.{IsCopiedFrom}
use Rattle.fleet_main.proofs.Mirroring.{answered_lent, brought_done, brought_refused, mirrored_lent, port_of_lent, sets_of_lent, worked_rules}
use Rattle.fleet_main.proofs.execute.worked.Goals as goal

pub returns : goal.returns
returns g c =
    let from : ¬ HasFailed c.args.mirror → IsCopiedFrom (repository_of c.args.source.now) c.args.mirror c.run_work.result.0 = λ works. record { mirrored = mirrored_lent c.new-master.result c.args.mirror c.run_work.result.0 c.args.source.now c.new-master.ensures c.run_work.ensures.brings.world.events c.run_work.ensures.brings.world.stops (c.run_work.ensures.brings.trees (repository_of c.args.source.now) (port_of_lent c.new-master.result c.args.source.now c.new-master.ensures) works); sets = c.run_work.ensures.brings.sets (repository_of c.args.source.now) (sets_of_lent c.new-master.result c.args.source.now c.new-master.ensures) works } in
    record {
      done = brought_done c.new-master.result c.args.work c.run_work.result.2 c.args.mirror c.run_work.result.0 c.args.source.now (g.O.Output.contents c.args.output) (g.O.Output.contents c.run_work.result.1) (Rose (g.O.Output.failures c.args.output) (g.O.Output.failures c.run_work.result.1))
          c.new-master.ensures c.run_work.ensures.ran from (λ works. c.run_work.ensures.brings.all (repository_of c.args.source.now) (port_of_lent c.new-master.result c.args.source.now c.new-master.ensures) works);
      refused = brought_refused c.new-master.result c.args.work c.run_work.result.2 c.args.mirror c.run_work.result.0 c.args.source.now (g.O.Output.contents c.args.output) (g.O.Output.contents c.run_work.result.1) (Rose (g.O.Output.failures c.args.output) (g.O.Output.failures c.run_work.result.1))
          c.new-master.ensures c.run_work.ensures.ran from;
      rules = worked_rules answered_lent c.new-master.result (IsWorked c.args.work) c.run_work.result.2 c.args.mirror c.run_work.result.0 (g.O.Output.contents c.args.output) (g.O.Output.contents c.run_work.result.1) (Rose (g.O.Output.failures c.args.output) (g.O.Output.failures c.run_work.result.1)) c.run_work.ensures.ran;
      unfailed = c.run_work.ensures.output.unfailed;
      peer = c.run_work.ensures.output.peer;
    }
