use Rattle.ra_wire.specs.Params.{left_of, number_in}
use Rattle.ra_wire.specs.Prototypes.{IsNumber}
use Rattle.ra_wire.proofs.Prototypes.{prototypes, judges_first}
use Rattle.ra_wire.proofs.answer.latest.Goals as goal

pub returns-clause-judged : goal.returns-clause-judged
returns-clause-judged c = judges_first IsNumber (λ n. n) number_in prototypes.of_number (left_of c.args.content) (left_of c.number.new.self) c.number.result c.number.ensures.read c.number.ensures.none
