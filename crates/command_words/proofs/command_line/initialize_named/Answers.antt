use Rattle.std.proofs.Common.{codes, rules}
use Rattle.command_words.proofs.Refusing.{folders_refused}
use Rattle.command_words.proofs.command_line.initialize_named.Goals as goal

pub returns-in-Ok-clause-named : goal.returns-in-Ok-clause-named
returns-in-Ok-clause-named c = c.over.ensures _ c.in-Ok.ensures.places tt

pub returns-in-Err-clause-usage : goal.returns-in-Err-clause-usage
returns-in-Err-clause-usage c = folders_refused (codes "initialize") _ _ (search rules) c.in-Err.ensures.usage
