use Rattle.ra_wire.specs.Params.{left_of}
use Rattle.ra_wire.specs.Answers.{content_in}
use Rattle.ra_wire.specs.Prototypes.{HasContent}
use Rattle.ra_wire.proofs.Prototypes.{prototypes, judges}
use Rattle.ra_wire.proofs.reply.Reply.content.Goals as goal

pub returns-clause-judged : goal.returns-clause-judged
returns-clause-judged c = judges HasContent left_of content_in prototypes.of_content c.args.item c.held.result c.held.ensures.read c.held.ensures.none
