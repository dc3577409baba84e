use Rattle.ra_denial.specs.Places.{place_as}
use Rattle.ra_reader.specs.Standings.{standing_at, Spoilt, Edited}
use Rattle.ra_reader.proofs.Adding.{passes_adds}
use Rattle.ra_reader.proofs.take.take.Goals as goal

pub returns-in-Spoilt-clause-adds : goal.returns-in-Spoilt-clause-adds
returns-in-Spoilt-clause-adds g c = passes_adds g.W.Write.contents (standing_at (place_as c.args.place.now) (Spoilt c.in-Spoilt.why)) c.args.place.now c.args.item c.args.out c.take_spoilt.result c.take_spoilt.ensures

pub returns-in-Edited-clause-adds : goal.returns-in-Edited-clause-adds
returns-in-Edited-clause-adds g c = passes_adds g.W.Write.contents (standing_at (place_as c.args.place.now) Edited) c.args.place.now c.args.item c.args.out c.take_reply.result c.take_reply.ensures
