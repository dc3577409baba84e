use Rattle.ra_wire.specs.Answers.{revprops_in}
use Rattle.ra_wire.specs.Prototypes.{AreRevprops}
use Rattle.ra_wire.proofs.Prototypes.{prototypes, judges}
use Rattle.ra_wire.proofs.props.revprops.Goals as goal

pub returns-clause-judged : goal.returns-clause-judged
returns-clause-judged c = judges AreRevprops (λ m. m) revprops_in prototypes.of_revprops c.args.item c.read_revprops.result c.read_revprops.ensures.read c.read_revprops.ensures.none
