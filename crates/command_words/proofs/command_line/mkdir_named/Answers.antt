use Rattle.command_words.proofs.Refusing.{moment_refused}
use Rattle.command_words.proofs.command_line.mkdir_named.Goals as goal

pub returns-clause-usage : goal.returns-clause-usage
returns-clause-usage c = moment_refused _ _ _ _ _ c.in_ok-value.ensures.value c.as_str.ensures.value c.as_str-in-None.ensures.value c.in-None.ensures.none c.wrong.ensures
