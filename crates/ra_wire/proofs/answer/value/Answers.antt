use Rattle.std.specs.Option.{option_map}
use Rattle.ra_wire.specs.Params.{left_of, text_in, bracketed}
use Rattle.ra_wire.specs.Prototypes.{IsValue}
use Rattle.ra_wire.proofs.Prototypes.{prototypes, judges_first}
use Rattle.ra_wire.proofs.answer.value.Goals as goal

pub returns-clause-judged : goal.returns-clause-judged
returns-clause-judged c = judges_first IsValue (option_map (λ t. t.items)) (bracketed text_in) prototypes.of_value (left_of c.args.content) (left_of c.maybe_text.new.self) c.maybe_text.result c.maybe_text.ensures.read c.maybe_text.ensures.none
