use Rattle.ra_wire.specs.Params.{left_of}
use Rattle.ra_wire.specs.Answers.{dir_as, dir_in}
use Rattle.ra_wire.specs.Prototypes.{IsDir}
use Rattle.ra_wire.proofs.Prototypes.{prototypes, judges}
use Rattle.ra_wire.proofs.browse.DirFound.parse.Goals as goal

pub returns-clause-judged : goal.returns-clause-judged
returns-clause-judged c = judges IsDir dir_as dir_in prototypes.of_dir (left_of c.args.content) c.read.result c.read.ensures.read c.read.ensures.none
