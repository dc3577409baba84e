use Rattle.svn_ends.proofs.Shown.{master_shows}
use Rattle.svn_ends.proofs.shares.MasterShareServedShare.enter_reader.Goals as goal

pub returns : goal.returns
returns g c = master_shows _ _ c.enter_reader.ensures
