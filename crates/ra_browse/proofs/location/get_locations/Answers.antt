use Rattle.ra_item.specs.Items.{spell}
use Rattle.browse_wire.specs.Told.{end_item}
use Rattle.ra_denial.specs.Places.{place_as}
use Rattle.ra_denial.proofs.Adding.{more_behind_last}
use Rattle.ra_browse.proofs.Located.{tells_found, tells_stop}
use Rattle.ra_browse.proofs.Adding.{more_located}
use Rattle.ra_browse.proofs.location.get_locations.Goals as goal

pub returns-in-Ok-clause-told : goal.returns-in-Ok-clause-told
returns-in-Ok-clause-told g c =
    tells_found g.P.RepoPort.repository g.P.RepoPort.refusals g.W.Write.contents (place_as c.args.place.now) c.args.path.now c.args.peg c.args.numbers.now c.args.port.now c.seek.new.port c.args.out c.tell_sought.result c.in-Ok.sought c.in-Ok.ensures.found c.tell_sought.ensures

pub returns-in-Err-clause-told : goal.returns-in-Err-clause-told
returns-in-Err-clause-told g c =
    tells_stop g.P.RepoPort.repository g.P.RepoPort.refusals g.W.Write.contents (place_as c.args.place.now) c.args.path.now c.args.peg c.args.numbers.now c.args.port.now c.seek.new.port c.args.out c.tell_behind_last.result c.in-Err.stop c.in-Err.ensures.found c.tell_behind_last.ensures

pub returns-in-Ok-clause-adds : goal.returns-in-Ok-clause-adds
returns-in-Ok-clause-adds g c = more_located g.W.Write.contents c.args.out c.tell_sought.result c.in-Ok.sought c.tell_sought.ensures

pub returns-in-Err-clause-adds : goal.returns-in-Err-clause-adds
returns-in-Err-clause-adds g c = more_behind_last g.W.Write.contents c.args.out c.tell_behind_last.result (spell end_item) c.in-Err.stop c.tell_behind_last.ensures
