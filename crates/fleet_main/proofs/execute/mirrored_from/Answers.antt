use Rattle.std.proofs.Common.{refl, inl}
use Rattle.byte_streams.specs.Causes.{Rose}
use Rattle.fleet_main.proofs.Mirroring.{source_done, source_refused}
use Rattle.fleet_main.proofs.execute.mirrored_from.Goals as goal

pub returns-in-Ok-clause-done : goal.returns-in-Ok-clause-done
returns-in-Ok-clause-done g c =
    source_done g.F.Place.Disk g.F.Folders c.args.folders.now c.opened.new.folders c.closed.new.folders c.args.source.now c.args.work c.worked-mirror.result.2 c.args.mirror c.worked-mirror.result.0 c.in-Ok.store
    (g.O.Output.contents c.args.output) (g.O.Output.contents c.worked-mirror.result.1) c.in-Ok.ensures.opened c.closed.ensures.kept c.closed.ensures.back c.worked-mirror.ensures.done

pub returns-in-Ok-clause-refused : goal.returns-in-Ok-clause-refused
returns-in-Ok-clause-refused g c =
    source_refused g.F.Place.Disk g.F.Folders c.args.folders.now c.opened.new.folders c.closed.new.folders c.args.source.now c.args.work c.worked-mirror.result.2 c.args.mirror c.worked-mirror.result.0 c.in-Ok.store
    (g.O.Output.contents c.args.output) (g.O.Output.contents c.worked-mirror.result.1) (Rose (g.O.Output.failures c.args.output) (g.O.Output.failures c.worked-mirror.result.1)) c.in-Ok.ensures.opened c.closed.ensures.kept c.closed.ensures.back c.worked-mirror.ensures.refused

pub returns-in-Err-clause-refused : goal.returns-in-Err-clause-refused
returns-in-Err-clause-refused g c = inl (c.in-Err.ensures.refused, refl, refl)
