use Rattle.std.proofs.Common.{codes, rules}
use Rattle.command_words.proofs.Refusing.{folders_refused}
use Rattle.command_words.proofs.command_line.synchronize_named.Goals as goal

pub returns-in-Err-token_of-clause-usage : goal.returns-in-Err-token_of-clause-usage
returns-in-Err-token_of-clause-usage c = folders_refused (codes "synchronize") _ _ (search rules) c.in-Err-token_of.ensures.usage

pub returns-in-Err-clause-usage : goal.returns-in-Err-clause-usage
returns-in-Err-clause-usage c = folders_refused (codes "synchronize") _ _ (search rules) c.in-Err.ensures.usage
