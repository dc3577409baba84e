use Rattle.ra_wire.specs.Params.{left_of}
use Rattle.ra_wire.specs.Answers.{kind_in}
use Rattle.ra_wire.specs.Prototypes.{IsKind}
use Rattle.ra_wire.proofs.Prototypes.{prototypes, judges_first}
use Rattle.ra_wire.proofs.answer.kind.Goals as goal

pub returns-clause-judged : goal.returns-clause-judged
returns-clause-judged c = judges_first IsKind (λ k. k) kind_in prototypes.of_kind (left_of c.args.content) (left_of c.next_kind.new.params) c.next_kind.result c.next_kind.ensures.read c.next_kind.ensures.none
