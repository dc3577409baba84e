use Rattle.ra_wire.specs.Params.{left_of}
use Rattle.ra_wire.specs.Openings.{greeting_as, greeting_in}
use Rattle.ra_wire.specs.Prototypes.{IsGreeting}
use Rattle.ra_wire.proofs.Prototypes.{prototypes, judges}
use Rattle.ra_wire.proofs.opening.Greeting.parse.Goals as goal

pub returns-clause-judged : goal.returns-clause-judged
returns-clause-judged c = judges IsGreeting greeting_as greeting_in prototypes.of_greeting (left_of c.args.content) c.read.result c.read.ensures.read c.read.ensures.none
