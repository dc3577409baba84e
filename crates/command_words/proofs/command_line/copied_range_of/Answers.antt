use Rattle.std.proofs.Common.{sym}
use Rattle.command_words.proofs.Refusing.{copied_range_refused}
use Rattle.command_words.proofs.command_line.copied_range_of.Goals as goal

pub returns-in-None-clause-usage : goal.returns-in-None-clause-usage
returns-in-None-clause-usage c = copied_range_refused _ _ _ (sym c.in-Some.ensures) c.in-None.ensures.none c.wrong.ensures
