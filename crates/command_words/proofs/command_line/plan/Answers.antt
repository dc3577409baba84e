use Rattle.command_words.proofs.Refusing.{usage_at, values_at}
use Rattle.command_words.proofs.command_line.plan.Goals as goal

pub returns-in-Ok-clause-usage : goal.returns-in-Ok-clause-usage
returns-in-Ok-clause-usage c = values_at _ _ _ _ _ c.in-Ok.ensures.kinds c.in-Ok.ensures.found c.asked.ensures.usage

pub returns-in-Err-clause-usage : goal.returns-in-Err-clause-usage
returns-in-Err-clause-usage c = usage_at _ _ _ c.in-Err.error c.usage_of.result c.in-Err.ensures.kinds c.usage_of.ensures
