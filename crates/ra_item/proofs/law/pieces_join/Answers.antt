use Rattle.ra_item.proofs.Runs.{reading-append}
use Rattle.ra_item.proofs.law.pieces_join.Goals as goal

pub returns : goal.returns
returns c = reading-append
