use Rattle.fleet_main.specs.Doing.{not_done}
use Rattle.fleet_main.proofs.Doing.{done_unsaid, of_ok}
use Rattle.fleet_main.proofs.Mirroring.{of_err}
use Rattle.svn_server.proofs.serving.serve_flushed.Goals as goal

pub returns-in-Err-clause-refused : goal.returns-in-Err-clause-refused
returns-in-Err-clause-refused g c =
    not_done (g.O.Output.contents c.serve_asked-output.result.0) (g.O.Output.failures c.serve_asked-output.result.0) (of_err c.serve_asked-output.result.1 c.in-Err.refusal _ c.in-Err.is c.serve_asked-output.ensures.refused) c.hand_on-flushed.ensures.kept c.hand_on-flushed.ensures.later

pub returns-in-Ok-clause-refused : goal.returns-in-Ok-clause-refused
returns-in-Ok-clause-refused g c =
    done_unsaid c.hand_on-flushed.result _ _ (g.O.Output.contents c.serve_asked-output.result.0) (g.O.Output.contents c.hand_on-flushed.new.output) (g.O.Output.failures c.args.output) (g.O.Output.failures c.serve_asked-output.result.0) (g.O.Output.failures c.hand_on-flushed.new.output)
    (of_ok c.serve_asked-output.result.1 _ _ c.in-Ok.is c.serve_asked-output.ensures.done) c.hand_on-flushed.ensures.kept (of_ok c.serve_asked-output.result.1 _ _ c.in-Ok.is c.serve_asked-output.ensures.unfailed) c.hand_on-flushed.ensures.only_peer c.hand_on-flushed.ensures.failed
