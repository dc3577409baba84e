use Rattle.ra_item.proofs.Canon.{one_reading}
use Rattle.ra_item.proofs.law.one_reading.Goals as goal

pub returns : goal.returns
returns c = one_reading
