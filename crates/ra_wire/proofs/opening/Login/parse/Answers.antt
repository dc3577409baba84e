use Rattle.ra_wire.specs.Openings.{login_as, login_in}
use Rattle.ra_wire.specs.Prototypes.{IsLogin}
use Rattle.ra_wire.proofs.Prototypes.{prototypes, judges}
use Rattle.ra_wire.proofs.opening.Login.parse.Goals as goal

pub returns-clause-judged : goal.returns-clause-judged
returns-clause-judged c = judges IsLogin login_as login_in prototypes.of_login c.args.item c.read.result c.read.ensures.read c.read.ensures.none
