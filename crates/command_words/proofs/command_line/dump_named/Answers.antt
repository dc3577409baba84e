use Rattle.std.proofs.Common.{sym}
use Rattle.command_words.proofs.Refusing.{range_refused}
use Rattle.command_words.proofs.command_line.dump_named.Goals as goal

pub returns-in-None-clause-usage : goal.returns-in-None-clause-usage
returns-in-None-clause-usage c = range_refused _ _ _ (sym c.in-Some.ensures) c.in-None.ensures.none c.wrong.ensures
