use Rattle.fleet_disk.proofs.Lasting.{folder_lasts}
use Rattle.fleet_disk.proofs.folder.make_missing.Goals as goal

pub returns-then-is_made-clause-name : goal.returns-then-is_made-clause-name
returns-then-is_made-clause-name g c honest =
    folder_lasts c.sync_folder.result (g.C.FolderCalls.lasts c.sync_folder.new.self) c.args.folder.now c.above.result.now (g.C.FolderCalls.lacks c.args.calls.now c.args.folder.now) c.above.ensures c.sync_folder.ensures.synced
