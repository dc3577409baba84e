use Rattle.std.proofs.Common.{refl, inl}
use Rattle.byte_streams.specs.Causes.{Rose}
use Rattle.fleet_main.proofs.Doing.{directory_done, directory_refused}
use Rattle.fleet_main.proofs.execute.make_dir.Goals as goal

pub returns-in-Ok-clause-done : goal.returns-in-Ok-clause-done
returns-in-Ok-clause-done g c =
    let e = c.run_mkdir-done.ensures in
    directory_done g.F.Place.Disk g.F.Folders c.args.folders.now c.opened.new.folders c.closed.new.folders c.args.folder.now c.run_mkdir-done.result c.args.path.now c.args.message.now c.args.moment
    (g.O.Output.contents c.args.output.now) (g.O.Output.contents c.run_mkdir-done.new.output) c.in-Ok.store c.run_mkdir-done.new.store
    c.in-Ok.ensures.opened e.ok e.device e.entry c.closed.ensures.kept c.closed.ensures.back

pub returns-in-Ok-clause-refused : goal.returns-in-Ok-clause-refused
returns-in-Ok-clause-refused g c =
    let e = c.run_mkdir-done.ensures in
    directory_refused g.F.Place.Disk g.F.Folders c.args.folders.now c.opened.new.folders c.closed.new.folders c.args.folder.now c.run_mkdir-done.result c.args.path.now c.args.message.now c.args.moment
    (g.O.Output.contents c.args.output.now) (g.O.Output.contents c.run_mkdir-done.new.output) (Rose (g.O.Output.failures c.args.output.now) (g.O.Output.failures c.run_mkdir-done.new.output)) c.in-Ok.store c.run_mkdir-done.new.store
    c.in-Ok.ensures.opened e.refused e.device e.entry c.closed.ensures.kept c.closed.ensures.either c.closed.ensures.back

pub returns-in-Err-clause-refused : goal.returns-in-Err-clause-refused
returns-in-Err-clause-refused g c = inl (c.in-Err.ensures.refused, refl)
