use Rattle.std.proofs.Common.{refl, inl}
use Rattle.byte_streams.specs.Causes.{Rose}
use Rattle.fleet_main.proofs.Mirroring.{told_done, told_refused}
use Rattle.fleet_main.proofs.execute.info.Goals as goal

pub returns-in-Ok-clause-done : goal.returns-in-Ok-clause-done
returns-in-Ok-clause-done g c =
    told_done g.F.Place.Disk g.F.Folders c.args.folders.now c.opened.new.folders c.closed.new.folders c.args.mirror.now (g.O.Output.contents c.args.output.now) (g.O.Output.contents c.run_info-done.new.output)
    c.in-Ok.store c.run_info-done.result c.in-Ok.ensures.opened c.run_info-done.ensures.fine c.run_info-done.ensures.ok c.closed.ensures.kept c.closed.ensures.back

pub returns-in-Ok-clause-refused : goal.returns-in-Ok-clause-refused
returns-in-Ok-clause-refused g c =
    told_refused g.F.Place.Disk g.F.Folders c.args.folders.now c.opened.new.folders c.closed.new.folders c.args.mirror.now (g.O.Output.contents c.args.output.now) (g.O.Output.contents c.run_info-done.new.output)
    c.in-Ok.store c.run_info-done.result (Rose (g.O.Output.failures c.args.output.now) (g.O.Output.failures c.run_info-done.new.output)) c.in-Ok.ensures.opened c.run_info-done.ensures.refused c.closed.ensures.kept c.closed.ensures.back

pub returns-in-Err-clause-refused : goal.returns-in-Err-clause-refused
returns-in-Err-clause-refused g c = inl (c.in-Err.ensures.refused, refl)
