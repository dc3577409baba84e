use Rattle.fleet_main.proofs.Loans.{not_lent}
use Rattle.fleet_main.proofs.Opening.{is_unopened, open_refused, open_unlent, opened_on}
use Rattle.fleet_main.proofs.folders.opened.Goals as goal

pub returns-in-Ok-open-clause-opened : goal.returns-in-Ok-open-clause-opened
returns-in-Ok-open-clause-opened g c =
    let l = c.in-Ok.ensures in
    let e = c.in-Ok-open.ensures.opened in (
      c.in-Ok.disk,
      record { given = l.lends.given; rules = l.lends.rules; lent = l.lends.lent; others = l.lends.others; honest = l.lends.sound; later = c.open.ensures.later },
      opened_on g.F.Place.Disk (g.F.Folders.honest c.args.folders.now) c.in-Ok.disk c.in-Ok-open.store l.lends.rules e,
    )

pub returns-in-Err-open-clause-refused : goal.returns-in-Err-open-clause-refused
returns-in-Err-open-clause-refused g c =
    let l = c.in-Ok.ensures in
    let e = c.in-Err-open.ensures.refused in
    let t = c.close.ensures in
    open_refused g.F.Place.Disk g.F.Folders c.args.folders.now c.open.new.self c.close.new.self c.args.folder.now c.in-Ok.disk c.in-Err-open.left c.store_refusal.result
    (record { given = l.lends.given; rules = l.lends.rules; lent = l.lends.lent; others = l.lends.others; honest = l.lends.sound; later = c.open.ensures.later })
    (record { back = t.back; others = t.others; honest = t.honest; later = t.later }) e.honest
    (is_unopened g.F.Place.Disk (g.F.Folders.honest c.args.folders.now) c.in-Ok.disk c.in-Err-open.left c.in-Err-open.fault c.store_refusal.result c.store_refusal.ensures.value l.lends.rules e)

pub returns-in-Err-clause-refused : goal.returns-in-Err-clause-refused
returns-in-Err-clause-refused g c =
    open_unlent g.F.Place.Disk g.F.Folders c.args.folders.now c.open.new.self c.open.new.self c.args.folder.now c.in-Err.fault c.folder_refusal.result c.folder_refusal.ensures.value c.in-Err.ensures.cause
    (not_lent g.F.Place.Disk g.F.Folders c.args.folders.now c.open.new.self c.in-Err.ensures.same.stay c.in-Err.ensures.same.sound c.open.ensures.later)
