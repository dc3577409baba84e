use Rattle.ra_denial.specs.Places.{place_as}
use Rattle.ra_reader.proofs.Exits.{by_reply}
use Rattle.ra_reader.proofs.take.take_reply.Goals as goal

pub returns : goal.returns
returns g c = by_reply g.W.Write.contents (place_as c.args.place.now) c.args.item c.args.out c.in_ok-out.out c.in_ok-out.ensures
