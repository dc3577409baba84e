use Rattle.std.proofs.Common.{◌∙◌}
use Rattle.node_base.proofs.NumbersRead.{read_of_spelled}
use Rattle.node_base.proofs.number.read_decimal.Goals as goal

pub returns-clause-taken : goal.returns-clause-taken
returns-clause-taken c = λ n small s. c.digits_value.ensures ∙ read_of_spelled c.args.bytes.now n small s
