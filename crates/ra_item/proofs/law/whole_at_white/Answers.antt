use Rattle.ra_item.proofs.Spelled.{whole_at_white}
use Rattle.ra_item.proofs.law.whole_at_white.Goals as goal

pub returns : goal.returns
returns c = whole_at_white
