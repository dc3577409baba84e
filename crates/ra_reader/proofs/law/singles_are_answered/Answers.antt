use Rattle.ra_reader.proofs.Laws.{singles}
use Rattle.ra_reader.proofs.law.singles_are_answered.Goals as goal

pub returns : goal.returns
returns c = singles
