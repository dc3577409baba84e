use Rattle.ra_browse.proofs.Laws.{others_stay}
use Rattle.ra_browse.proofs.law.only_reparent_moves.Goals as goal

pub returns : goal.returns
returns c = others_stay
