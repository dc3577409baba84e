use Rattle.std.proofs.Common.{refl, inl}
use Rattle.byte_streams.specs.Causes.{Rose}
use Rattle.fleet_main.proofs.Doing.{head_done, head_refused}
use Rattle.fleet_main.proofs.execute.head.Goals as goal

pub returns-in-Ok-clause-done : goal.returns-in-Ok-clause-done
returns-in-Ok-clause-done g c =
    head_done g.F.Place.Disk g.F.Folders c.args.folders.now c.opened.new.folders c.closed.new.folders c.args.folder.now c.run_head-done.result
    (g.O.Output.contents c.args.output.now) (g.O.Output.contents c.run_head-done.new.output) c.in-Ok.store
    c.in-Ok.ensures.opened c.run_head-done.ensures.ok c.closed.ensures.kept c.closed.ensures.back

pub returns-in-Ok-clause-refused : goal.returns-in-Ok-clause-refused
returns-in-Ok-clause-refused g c =
    head_refused g.F.Place.Disk g.F.Folders c.args.folders.now c.opened.new.folders c.closed.new.folders c.args.folder.now c.run_head-done.result
    (g.O.Output.contents c.args.output.now) (g.O.Output.contents c.run_head-done.new.output) (Rose (g.O.Output.failures c.args.output.now) (g.O.Output.failures c.run_head-done.new.output)) c.in-Ok.store
    c.in-Ok.ensures.opened c.run_head-done.ensures.only_peer c.run_head-done.ensures.failed c.closed.ensures.kept c.closed.ensures.back

pub returns-in-Err-clause-refused : goal.returns-in-Err-clause-refused
returns-in-Err-clause-refused g c = inl (c.in-Err.ensures.refused, refl)
