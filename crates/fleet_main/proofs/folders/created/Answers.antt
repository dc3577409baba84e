use Rattle.fleet_main.proofs.Lasting.{begun_lasts}
use Rattle.fleet_main.proofs.Loans.{not_lent}
use Rattle.fleet_main.proofs.Opening.{begin_refused, begin_unlent, begun_on, unbegun}
use Rattle.fleet_main.proofs.folders.created.Goals as goal

pub returns-in-Ok-create-clause-begun : goal.returns-in-Ok-create-clause-begun
returns-in-Ok-create-clause-begun g c =
    let l = c.in-Ok.ensures in
    let e = c.in-Ok-create.ensures.begun in (
      c.in-Ok.disk,
      record { given = l.lends.given; rules = l.lends.rules; lent = l.lends.lent; others = l.lends.others; honest = l.lends.sound; later = c.create.ensures.later },
      begun_on g.F.Place.Disk (g.F.Folders.honest c.args.folders.now) c.args.identity c.in-Ok.disk c.in-Ok-create.store l.lends.rules e,
      begun_lasts g.F.Place.Disk g.F.Folders c.args.folders.now c.create.new.self c.args.folder.now c.in-Ok.disk l.lasting (λ h. e.empty (l.lends.rules h)),
    )

pub returns-in-Err-create-clause-refused : goal.returns-in-Err-create-clause-refused
returns-in-Err-create-clause-refused g c =
    let l = c.in-Ok.ensures in
    let e = c.in-Err-create.ensures.refused in
    let t = c.close.ensures in
    begin_refused g.F.Place.Disk g.F.Folders c.args.folders.now c.create.new.self c.close.new.self c.args.folder.now c.args.identity c.in-Ok.disk c.in-Err-create.disk c.store_refusal.result
    (record { given = l.lends.given; rules = l.lends.rules; lent = l.lends.lent; others = l.lends.others; honest = l.lends.sound; later = c.create.ensures.later })
    (record { back = t.back; others = t.others; honest = t.honest; later = t.later }) e.honest
    (unbegun g.F.Place.Disk (g.F.Folders.honest c.args.folders.now) c.args.identity c.in-Ok.disk c.in-Err-create.disk c.in-Err-create.fault c.store_refusal.result c.store_refusal.ensures.value l.lends.rules e)

pub returns-in-Err-clause-refused : goal.returns-in-Err-clause-refused
returns-in-Err-clause-refused g c =
    begin_unlent g.F.Place.Disk g.F.Folders c.args.folders.now c.create.new.self c.create.new.self c.args.folder.now c.args.identity c.in-Err.fault c.folder_refusal.result c.folder_refusal.ensures.value c.in-Err.ensures.cause
    (not_lent g.F.Place.Disk g.F.Folders c.args.folders.now c.create.new.self c.in-Err.ensures.same.stay c.in-Err.ensures.same.sound c.create.ensures.later)
