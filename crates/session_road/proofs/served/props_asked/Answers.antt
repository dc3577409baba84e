use Rattle.std.proofs.Common.{arith}
use Rattle.session_road.proofs.Fits.{props_fits}
use Rattle.session_road.proofs.served.props_asked.Goals as goal

pub session-requires : goal.session-requires
session-requires c = record { fits = props_fits c.from.result (omega (arith, c.from.ensures, c.get.ensures.small)) }
