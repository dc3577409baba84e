use Rattle.std.proofs.Common.{arith}
use Rattle.session_road.proofs.Fits.{range_fits}
use Rattle.session_road.proofs.served.revision_asked.Goals as goal

pub session-requires : goal.session-requires
session-requires c = record { fits = range_fits c.from-n.result (omega (arith, c.from-n.ensures, c.get.ensures.small)) }
