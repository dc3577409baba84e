use Rattle.std.proofs.Common.{refl, inl}
use Rattle.byte_streams.specs.Causes.{Rose}
use Rattle.fleet_main.proofs.Doing.{load_done, load_refused}
use Rattle.fleet_main.proofs.execute.load.Goals as goal

pub returns-in-Ok-clause-done : goal.returns-in-Ok-clause-done
returns-in-Ok-clause-done g c =
    let e = c.run_load-done.ensures in
    load_done g.F.Place.Disk g.F.Folders c.args.folders.now c.opened.new.folders c.closed.new.folders c.args.folder.now c.args.deltas c.run_load-done.result (g.I.Input.remaining c.args.input.now)
    (g.O.Output.contents c.args.output.now) (g.O.Output.contents c.run_load-done.new.report) c.in-Ok.store c.run_load-done.new.store
    c.in-Ok.ensures.opened e.ok e.no_mirror e.device e.entries c.closed.ensures.kept c.closed.ensures.back

pub returns-in-Ok-clause-refused : goal.returns-in-Ok-clause-refused
returns-in-Ok-clause-refused g c =
    let e = c.run_load-done.ensures in
    let bytes = g.I.Input.remaining c.args.input.now in
    load_refused g.F.Place.Disk g.F.Folders c.args.folders.now c.opened.new.folders c.closed.new.folders c.args.folder.now c.args.deltas c.run_load-done.result bytes (g.I.Input.remaining c.run_load-done.new.input) bytes
    (g.O.Output.contents c.args.output.now) (g.O.Output.contents c.run_load-done.new.report) (Rose (g.O.Output.failures c.args.output.now) (g.O.Output.failures c.run_load-done.new.report)) c.in-Ok.store c.run_load-done.new.store
    c.in-Ok.ensures.opened e.refused e.mirror e.device e.entries c.closed.ensures.kept c.closed.ensures.either c.closed.ensures.back

pub returns-in-Err-clause-refused : goal.returns-in-Err-clause-refused
returns-in-Err-clause-refused g c = inl (c.in-Err.ensures.refused, refl)
