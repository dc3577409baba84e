use Rattle.std.proofs.Common.{sym}
use Rattle.command_words.proofs.Refusing.{identity_refused}
use Rattle.command_words.proofs.command_line.create_named.Goals as goal

pub returns-clause-usage : goal.returns-clause-usage
returns-clause-usage c = identity_refused _ _ _ _ _ c.in_ok-value.ensures.value c.as_str.ensures.value c.as_str-in-None.ensures.value (sym c.in-None.ensures) c.wrong.ensures
