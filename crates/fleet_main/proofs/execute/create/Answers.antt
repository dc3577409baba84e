use Rattle.fleet_main.proofs.Doing.{begun}
use Rattle.fleet_main.proofs.execute.create.Goals as goal

pub returns-in-Ok-clause-done : goal.returns-in-Ok-clause-done
returns-in-Ok-clause-done g c =
    begun g.F.Place.Disk g.F.Folders c.args.folders.now c.created.new.folders c.closed.new.folders c.args.folder.now c.args.identity c.in-Ok.begun c.in-Ok.ensures.begun c.closed.ensures.back c.closed.ensures.paths.1
