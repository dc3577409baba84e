use Rattle.svn_ends.proofs.Shown.{mirror_shows}
use Rattle.svn_ends.proofs.shares.MirrorShareServedShare.enter_reader.Goals as goal

pub returns : goal.returns
returns g c = mirror_shows _ _ c.enter_reader.ensures
