use Rattle.std.proofs.Common.{refl, inl}
use Rattle.mirror_engines.specs.Runs.{IsWorked}
use Rattle.byte_streams.specs.Causes.{Rose}
use Rattle.fleet_main.proofs.Pulled.{standing_done, standing_refused}
use Rattle.fleet_main.proofs.pulling.pull_folder.Goals as goal

pub returns-in-Ok-clause-done : goal.returns-in-Ok-clause-done
returns-in-Ok-clause-done g c =
    standing_done g.F.Place.Disk g.F.Folders c.args.folders.now c.opened.new.folders c.closed.new.folders c.args.mirror.now (IsWorked c.args.work) (g.O.Output.contents c.args.output)
    (g.O.Output.contents c.pull_opened-store.result.1) c.in-Ok.store c.pull_opened-store.result.0 c.pull_opened-store.result.2 c.in-Ok.ensures.opened c.pull_opened-store.ensures.done c.closed.ensures.back c.pull_opened-store.ensures.rules

pub returns-in-Ok-clause-refused : goal.returns-in-Ok-clause-refused
returns-in-Ok-clause-refused g c =
    standing_refused g.F.Place.Disk g.F.Folders c.args.folders.now c.opened.new.folders c.closed.new.folders c.args.mirror.now (IsWorked c.args.work) (g.O.Output.contents c.args.output)
    (g.O.Output.contents c.pull_opened-store.result.1) c.in-Ok.store c.pull_opened-store.result.0 c.pull_opened-store.result.2 (Rose (g.O.Output.failures c.args.output) (g.O.Output.failures c.pull_opened-store.result.1)) c.in-Ok.ensures.opened c.closed.ensures.kept
    c.pull_opened-store.ensures.refused c.closed.ensures.back c.pull_opened-store.ensures.rules

pub returns-in-Err-clause-refused : goal.returns-in-Err-clause-refused
returns-in-Err-clause-refused g c = inl (c.in-Err.ensures.refused, refl)
