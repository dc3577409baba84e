use Rattle.ra_wire.specs.Answers.{dirent_as}
use Rattle.ra_wire.proofs.ReadAgain.{dirent_again}
use Rattle.ra_wire.proofs.law.entry_is_read_again.Goals as goal

pub returns : goal.returns
returns c = dirent_again (dirent_as c.args.entry.now) c.node_name_is_kept.ensures
