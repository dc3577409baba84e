use Rattle.ra_wire.specs.Params.{left_of}
use Rattle.ra_wire.specs.Openings.{mechanisms_as, mechanisms_in}
use Rattle.ra_wire.specs.Prototypes.{AreMechanisms}
use Rattle.ra_wire.proofs.Prototypes.{prototypes, judges}
use Rattle.ra_wire.proofs.opening.Mechanisms.parse.Goals as goal

pub returns-clause-judged : goal.returns-clause-judged
returns-clause-judged c = judges AreMechanisms mechanisms_as mechanisms_in prototypes.of_mechanisms (left_of c.args.content) c.read.result c.read.ensures.read c.read.ensures.none
