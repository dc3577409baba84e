use Rattle.whole_texts.proofs.Causes.{none_whole, one_cause}
use Rattle.whole_texts.proofs.laws.one_cause.Goals as goal

pub returns-clause-none : goal.returns-clause-none
returns-clause-none c = none_whole

pub returns-clause-one : goal.returns-clause-one
returns-clause-one c = one_cause
