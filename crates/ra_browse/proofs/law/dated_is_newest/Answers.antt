use Rattle.ra_browse.proofs.DatedRevs.{dated_newest}
use Rattle.ra_browse.proofs.law.dated_is_newest.Goals as goal

pub returns : goal.returns
returns c = dated_newest
