use Rattle.ra_wire.specs.Answers.{refused_as, refused_in}
use Rattle.ra_wire.specs.Prototypes.{IsRefused}
use Rattle.ra_wire.proofs.Prototypes.{prototypes, judges}
use Rattle.ra_wire.proofs.reply.Refused.parse.Goals as goal

pub returns-clause-judged : goal.returns-clause-judged
returns-clause-judged c = judges IsRefused refused_as refused_in prototypes.of_refused c.args.item c.read.result c.read.ensures.read c.read.ensures.none
