use Rattle.std.proofs.Common.{map, string_bytes}
use Rattle.fleet_main.proofs.Brought.{fleet_done, fleet_refused, fleet_stood}
use Rattle.fleet_main.proofs.bringing.fleet_brought.Goals as goal

pub returns-in-Ok-opened-clause-done : goal.returns-in-Ok-opened-clause-done
returns-in-Ok-opened-clause-done g c =
    fleet_done g.F.Place.Disk g.F.Folders c.args.folders.now c.closed.new.folders c.args.master.now (map string_bytes c.args.mirrors.now) c.brought-stores.result.1 c.told_or.result c.told_or.ensures.ok
    (fleet_stood g.F.Place.Disk g.F.Folders c.args.folders.now c.opened.new.folders c.brought-stores.new.folders c.closed.new.folders c.args.master.now (map string_bytes c.args.mirrors.now) c.in-Ok.refusals.items
    c.in-Ok-opened.store c.into_master-store.result c.of-stores.result c.brought-stores.result.0 c.brought-stores.result.1 c.in-Ok-opened.ensures.opened c.keeps.ensures.stop c.keeps-in-Ok-opened.ensures.kept c.in-Ok.ensures.items
    c.of-stores.ensures.0 c.into_master-store.ensures c.brought-stores.ensures.brought c.closed.ensures.back)

pub returns-in-Ok-opened-clause-refused : goal.returns-in-Ok-opened-clause-refused
returns-in-Ok-opened-clause-refused g c =
    fleet_refused g.F.Place.Disk g.F.Folders c.args.folders.now c.closed.new.folders c.args.master.now (map string_bytes c.args.mirrors.now) c.brought-stores.result.1 c.told_or.result c.told_or.ensures.refused
    (fleet_stood g.F.Place.Disk g.F.Folders c.args.folders.now c.opened.new.folders c.brought-stores.new.folders c.closed.new.folders c.args.master.now (map string_bytes c.args.mirrors.now) c.in-Ok.refusals.items
    c.in-Ok-opened.store c.into_master-store.result c.of-stores.result c.brought-stores.result.0 c.brought-stores.result.1 c.in-Ok-opened.ensures.opened c.keeps.ensures.stop c.keeps-in-Ok-opened.ensures.kept c.in-Ok.ensures.items
    c.of-stores.ensures.0 c.into_master-store.ensures c.brought-stores.ensures.brought c.closed.ensures.back)
