use Rattle.ra_wire.specs.Answers.{dirent_as, dirent_in}
use Rattle.ra_wire.specs.Prototypes.{IsDirent}
use Rattle.ra_wire.proofs.Prototypes.{prototypes, judges}
use Rattle.ra_wire.proofs.dirent.Dirent.parse.Goals as goal

pub returns-clause-judged : goal.returns-clause-judged
returns-clause-judged c = judges IsDirent dirent_as dirent_in prototypes.of_dirent c.args.item c.read.result c.read.ensures.read c.read.ensures.none
