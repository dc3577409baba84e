use Rattle.ra_item.proofs.Canon.{written_item}
use Rattle.ra_item.proofs.law.written_is_spelled.Goals as goal

pub returns : goal.returns
returns c = written_item
