use Rattle.std.proofs.Common.{refl, inl}
use Rattle.byte_streams.specs.Causes.{Rose}
use Rattle.fleet_main.proofs.Upgrading.{upgrade_done, upgrade_refused}
use Rattle.fleet_main.proofs.execute.upgrade.Goals as goal

pub returns-in-Ok-clause-done : goal.returns-in-Ok-clause-done
returns-in-Ok-clause-done g c =
    let t = c.close.ensures in
    upgrade_done g.F.Place.Disk g.F.Folders c.args.folders.now c.opened_to_upgrade.new.folders c.close.new.self c.args.folder.now c.in-Ok.store c.run_upgrade-disk.result.0 c.run_upgrade-disk.result.1
    (g.O.Output.contents c.args.output.now) (g.O.Output.contents c.run_upgrade-disk.new.output) c.in-Ok.ensures.opened c.in-Ok.ensures.lasting t.names
    (record { back = t.back; others = t.others; honest = t.honest; later = t.later }) c.run_upgrade-disk.ensures.done

pub returns-in-Ok-clause-refused : goal.returns-in-Ok-clause-refused
returns-in-Ok-clause-refused g c =
    let t = c.close.ensures in
    upgrade_refused g.F.Place.Disk g.F.Folders c.args.folders.now c.opened_to_upgrade.new.folders c.close.new.self c.args.folder.now c.in-Ok.store c.run_upgrade-disk.result.0 c.run_upgrade-disk.result.1
    (g.O.Output.contents c.args.output.now) (g.O.Output.contents c.run_upgrade-disk.new.output) (Rose (g.O.Output.failures c.args.output.now) (g.O.Output.failures c.run_upgrade-disk.new.output)) c.in-Ok.ensures.opened c.in-Ok.ensures.lasting t.names
    (record { back = t.back; others = t.others; honest = t.honest; later = t.later }) c.run_upgrade-disk.ensures.refused

pub returns-in-Err-clause-refused : goal.returns-in-Err-clause-refused
returns-in-Err-clause-refused g c = inl (c.in-Err.ensures.refused, refl)
