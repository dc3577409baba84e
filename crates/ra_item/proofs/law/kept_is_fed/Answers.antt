use Rattle.ra_item.proofs.Read.{kept_is_fed}
use Rattle.ra_item.proofs.law.kept_is_fed.Goals as goal

pub returns : goal.returns
returns c = kept_is_fed
