use Rattle.ra_item.proofs.GoesOn.{read_goes_on}
use Rattle.ra_item.proofs.law.read_goes_on.Goals as goal

pub returns : goal.returns
returns c = read_goes_on
