use Rattle.std.proofs.Common.{sym}
use Rattle.command_words.proofs.Refusing.{again_refused, fifth_refused}
use Rattle.command_words.proofs.fleet_named.fleet_of.Goals as goal

pub returns-in-Some-clause-usage : goal.returns-in-Some-clause-usage
returns-in-Some-clause-usage c = fifth_refused _ _ _ _ (sym c.in-Some.ensures) c.wrong.ensures

pub returns-in-Some-named_twice-clause-usage : goal.returns-in-Some-named_twice-clause-usage
returns-in-Some-named_twice-clause-usage c = again_refused _ _ _ _ (sym c.in-Some-named_twice.ensures) c.wrong-in-Some-named_twice.ensures
