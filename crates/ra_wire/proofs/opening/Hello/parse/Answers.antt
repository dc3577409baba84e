use Rattle.ra_wire.specs.Openings.{hello_as, hello_in}
use Rattle.ra_wire.specs.Prototypes.{IsHello}
use Rattle.ra_wire.proofs.Prototypes.{prototypes, judges}
use Rattle.ra_wire.proofs.opening.Hello.parse.Goals as goal

pub returns-clause-judged : goal.returns-clause-judged
returns-clause-judged c = judges IsHello hello_as hello_in prototypes.of_hello c.args.item c.read.result c.read.ensures.read c.read.ensures.none
