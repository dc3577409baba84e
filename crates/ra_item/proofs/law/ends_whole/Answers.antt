use Rattle.ra_item.proofs.Read.{ends_whole}
use Rattle.ra_item.proofs.law.ends_whole.Goals as goal

pub returns : goal.returns
returns c = ends_whole
