use Rattle.ra_wire.specs.Params.{left_of}
use Rattle.ra_wire.specs.Openings.{welcome_as, welcome_in}
use Rattle.ra_wire.specs.Prototypes.{IsWelcome}
use Rattle.ra_wire.proofs.Prototypes.{prototypes, judges}
use Rattle.ra_wire.proofs.opening.Welcome.parse.Goals as goal

pub returns-clause-judged : goal.returns-clause-judged
returns-clause-judged c = judges IsWelcome welcome_as welcome_in prototypes.of_welcome (left_of c.args.content) c.read.result c.read.ensures.read c.read.ensures.none
