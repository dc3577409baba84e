use Rattle.std.proofs.Common.{rules}
use Rattle.command_words.proofs.Refusing.{message_refused}
use Rattle.command_words.proofs.command_line.message.Goals as goal

pub returns-then-has_return-clause-usage : goal.returns-then-has_return-clause-usage
returns-then-has_return-clause-usage c = message_refused _ _ _ _ _ c.in_ok-message.ensures.value c.as_str.ensures.value c.as_str-then-has_return.ensures.value (search rules) c.wrong.ensures
