use Rattle.std.proofs.Common.{rules}
use Rattle.ra_edit.proofs.Refusing.{bad_sum}
use Rattle.ra_edit.proofs.receive_edit.check_sum.Goals as goal

pub returns-in-Some-clause-refused : goal.returns-in-Some-clause-refused
returns-in-Some-clause-refused c = λ held h. bad_sum c.args.given.now c.in-Whole.found c.in-Some.wanted c.args.sum held c.in-Whole.is c.in-Some.is (λ e. search rules) h
