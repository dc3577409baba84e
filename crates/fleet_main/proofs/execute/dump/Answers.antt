use Rattle.std.proofs.Common.{refl, inl}
use Rattle.byte_streams.specs.Causes.{Rose}
use Rattle.fleet_main.proofs.Doing.{dump_done, dump_refused}
use Rattle.fleet_main.proofs.execute.dump.Goals as goal

pub returns-in-Ok-clause-done : goal.returns-in-Ok-clause-done
returns-in-Ok-clause-done g c =
    dump_done g.F.Place.Disk g.F.Folders c.args.folders.now c.opened.new.folders c.closed.new.folders c.args.folder.now c.run_dump-done.result c.args.range
    (g.O.Output.contents c.args.output.now) (g.O.Output.contents c.run_dump-done.new.output) c.in-Ok.store
    c.in-Ok.ensures.opened c.run_dump-done.ensures.there c.run_dump-done.ensures.ok c.closed.ensures.kept c.closed.ensures.back

pub returns-in-Ok-clause-refused : goal.returns-in-Ok-clause-refused
returns-in-Ok-clause-refused g c =
    dump_refused g.F.Place.Disk g.F.Folders c.args.folders.now c.opened.new.folders c.closed.new.folders c.args.folder.now c.run_dump-done.result c.args.range
    (g.O.Output.contents c.args.output.now) (g.O.Output.contents c.run_dump-done.new.output) (Rose (g.O.Output.failures c.args.output.now) (g.O.Output.failures c.run_dump-done.new.output)) c.in-Ok.store
    c.in-Ok.ensures.opened c.run_dump-done.ensures.refused c.closed.ensures.kept c.closed.ensures.back

pub returns-in-Err-clause-refused : goal.returns-in-Err-clause-refused
returns-in-Err-clause-refused g c = inl (c.in-Err.ensures.refused, refl)
