use Rattle.ra_reader.proofs.Laws.{one_root}
use Rattle.ra_reader.proofs.law.stands_below_one_root.Goals as goal

pub returns : goal.returns
returns c = one_root
