use Rattle.std.proofs.Common.{refl}
use Rattle.byte_streams.specs.Causes.{Rose}
use Rattle.fleet_main.specs.Doing.{IsBrought, NotBrought, no_mirror}
use Rattle.fleet_main.proofs.Mirroring.{both_done, both_refused}
use Rattle.fleet_main.proofs.execute.mirrored.Goals as goal

pub returns-in-Ok-clause-done : goal.returns-in-Ok-clause-done
returns-in-Ok-clause-done g c =
    both_done g.F.Place.Disk g.F.Folders c.args.folders.now c.opened.new.folders c.mirrored_from-store.new.folders c.closed.new.folders c.args.mirror.now c.args.source.now c.in-Ok.store c.mirrored_from-store.result.0
    (IsBrought c.args.work (g.O.Output.contents c.args.output) (g.O.Output.contents c.mirrored_from-store.result.1)) c.mirrored_from-store.result.2 c.in-Ok.ensures.opened c.mirrored_from-store.ensures.done
    c.closed.ensures.back c.mirrored_from-store.ensures.rules

pub returns-in-Ok-clause-refused : goal.returns-in-Ok-clause-refused
returns-in-Ok-clause-refused g c =
    both_refused g.F.Place.Disk g.F.Folders c.args.folders.now c.opened.new.folders c.mirrored_from-store.new.folders c.closed.new.folders c.args.mirror.now c.args.source.now c.in-Ok.store c.mirrored_from-store.result.0
    (λ e. NotBrought c.args.work (g.O.Output.contents c.args.output) (g.O.Output.contents c.mirrored_from-store.result.1) (Rose (g.O.Output.failures c.args.output) (g.O.Output.failures c.mirrored_from-store.result.1)) e) c.mirrored_from-store.result.2
    (g.O.Output.contents c.args.output) (g.O.Output.contents c.mirrored_from-store.result.1) c.in-Ok.ensures.opened c.closed.ensures.kept c.mirrored_from-store.ensures.refused c.closed.ensures.back
    c.mirrored_from-store.ensures.rules

pub returns-in-Err-clause-refused : goal.returns-in-Err-clause-refused
returns-in-Err-clause-refused g c = no_mirror c.in-Err.ensures.refused refl
