use Rattle.ra_wire.specs.Params.{left_of}
use Rattle.ra_wire.specs.Answers.{file_as, file_in}
use Rattle.ra_wire.specs.Prototypes.{IsFile}
use Rattle.ra_wire.proofs.Prototypes.{prototypes, judges}
use Rattle.ra_wire.proofs.browse.FileFound.parse.Goals as goal

pub returns-clause-judged : goal.returns-clause-judged
returns-clause-judged c = judges IsFile file_as file_in prototypes.of_file (left_of c.args.content) c.read.result c.read.ensures.read c.read.ensures.none
