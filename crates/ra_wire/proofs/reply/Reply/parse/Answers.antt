use Rattle.ra_wire.specs.Answers.{reply_as, reply_in}
use Rattle.ra_wire.specs.Prototypes.{IsReply}
use Rattle.ra_wire.proofs.Prototypes.{prototypes, judges}
use Rattle.ra_wire.proofs.reply.Reply.parse.Goals as goal

pub returns-clause-judged : goal.returns-clause-judged
returns-clause-judged c = judges IsReply reply_as reply_in prototypes.of_reply c.args.item c.read.result c.read.ensures.read c.read.ensures.none
