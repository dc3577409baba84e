use Rattle.ra_browse.proofs.Mades.{unknown_made}
use Rattle.ra_browse.proofs.made.Made.unknown.Goals as goal

pub returns : goal.returns
returns c = unknown_made
