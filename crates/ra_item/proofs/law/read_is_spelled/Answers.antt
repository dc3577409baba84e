use Rattle.ra_item.proofs.Read.{read_is_spelled}
use Rattle.ra_item.proofs.law.read_is_spelled.Goals as goal

pub returns : goal.returns
returns c = read_is_spelled
