use Rattle.fleet_main.proofs.Lasting.{opened_lasts}
use Rattle.fleet_main.proofs.Loans.{not_lent}
use Rattle.fleet_main.proofs.Opening.{is_unopened, open_refused, open_unlent, opened_on}
use Rattle.fleet_main.proofs.folders.opened_to_upgrade.Goals as goal

pub returns-in-Ok-open-clause-opened : goal.returns-in-Ok-open-clause-opened
returns-in-Ok-open-clause-opened g c =
    let l = c.in-Ok.ensures in
    let e = c.in-Ok-open.ensures.opened in (
      c.in-Ok.lent,
      record { given = l.lends.given; rules = l.lends.rules; lent = l.lends.lent; others = l.lends.others; honest = l.lends.sound; later = c.complete.ensures.later },
      opened_on g.F.Place.Disk (g.F.Folders.honest c.args.folders.now) c.in-Ok.lent c.in-Ok-open.store l.lends.rules e,
    )

pub returns-in-Ok-open-clause-lasting : goal.returns-in-Ok-open-clause-lasting
returns-in-Ok-open-clause-lasting g c =
    let l = c.in-Ok.ensures in
    let e = c.in-Ok-open.ensures.opened in
    opened_lasts g.F.Place.Disk g.F.Folders c.args.folders.now c.complete.new.self c.args.folder.now c.in-Ok.lent c.in-Ok-open.store l.lasting
    (opened_on g.F.Place.Disk (g.F.Folders.honest c.args.folders.now) c.in-Ok.lent c.in-Ok-open.store l.lends.rules e)

pub returns-in-Err-open-clause-refused : goal.returns-in-Err-open-clause-refused
returns-in-Err-open-clause-refused g c =
    let l = c.in-Ok.ensures in
    let e = c.in-Err-open.ensures.refused in
    let t = c.close.ensures in
    open_refused g.F.Place.Disk g.F.Folders c.args.folders.now c.complete.new.self c.close.new.self c.args.folder.now c.in-Ok.lent c.in-Err-open.back c.store_refusal.result
    (record { given = l.lends.given; rules = l.lends.rules; lent = l.lends.lent; others = l.lends.others; honest = l.lends.sound; later = c.complete.ensures.later })
    (record { back = t.back; others = t.others; honest = t.honest; later = t.later }) e.honest
    (is_unopened g.F.Place.Disk (g.F.Folders.honest c.args.folders.now) c.in-Ok.lent c.in-Err-open.back c.in-Err-open.fault c.store_refusal.result c.store_refusal.ensures.value l.lends.rules e)

pub returns-in-Err-clause-refused : goal.returns-in-Err-clause-refused
returns-in-Err-clause-refused g c =
    open_unlent g.F.Place.Disk g.F.Folders c.args.folders.now c.complete.new.self c.complete.new.self c.args.folder.now c.in-Err.fault c.folder_refusal.result c.folder_refusal.ensures.value c.in-Err.ensures.cause
    (not_lent g.F.Place.Disk g.F.Folders c.args.folders.now c.complete.new.self c.in-Err.ensures.same.stay c.in-Err.ensures.same.sound c.complete.ensures.later)
