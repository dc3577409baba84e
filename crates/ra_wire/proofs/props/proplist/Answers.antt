use Rattle.ra_wire.specs.Params.{left_of}
use Rattle.ra_wire.specs.Answers.{props_in}
use Rattle.ra_wire.specs.Prototypes.{HasProps}
use Rattle.ra_wire.proofs.Prototypes.{prototypes, judges_first}
use Rattle.ra_wire.proofs.props.proplist.Goals as goal

pub returns-clause-judged : goal.returns-clause-judged
returns-clause-judged c = judges_first HasProps (λ m. m) props_in prototypes.of_proplist (left_of c.args.content) (left_of c.next_props.new.params) c.next_props.result c.next_props.ensures.read c.next_props.ensures.none
