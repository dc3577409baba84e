use Rattle.std.specs.Prelude.{map}
use Rattle.ra_wire.specs.Answers.{dirent_as}
use Rattle.ra_wire.proofs.Listed.{dir_again}
use Rattle.ra_wire.proofs.law.dir_is_read_again.Goals as goal

pub returns : goal.returns
returns c = dir_again c.args.props.now (map dirent_as c.args.entries.now) c.entries-entries.ensures.rules c.entries_are_read_again.ensures
