use Rattle.std.proofs.Common.{◌+◌, ap, length, length-append, arith, ◌/◌, ◌%◌, ◌∷◌, []}
use Rattle.std.proofs.lemmas.Fmt.{decimal_digit, decimal_step, length-decimal-le}
use Rattle.std.specs.Fmt.{decimal}
use Rattle.ra_edit.proofs.command.+digit_count.Goals as goal

pub returns-then-n-lt10-clause-digits : goal.returns-then-n-lt10-clause-digits
returns-then-n-lt10-clause-digits n c = omega (arith, ap length (decimal_digit c.args.n c.if-n-lt10.true))

pub returns-else-n-lt10-clause-digits : goal.returns-else-n-lt10-clause-digits
returns-else-n-lt10-clause-digits n c =
    omega (arith, ap length (decimal_step c.args.n (omega arith) (omega arith)), length-append (decimal (c.args.n / 10)) ((48 + c.args.n % 10) ∷ []), c.digit_count.ensures.digits)

pub returns-else-n-lt10-clause-small : goal.returns-else-n-lt10-clause-small
returns-else-n-lt10-clause-small n c =
    omega (arith, ap length (decimal_step c.args.n (omega arith) (omega arith)), length-append (decimal (c.args.n / 10)) ((48 + c.args.n % 10) ∷ []), c.digit_count.ensures.digits, length-decimal-le 20 c.args.n (omega arith) (omega arith) (omega arith))
