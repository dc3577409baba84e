use Rattle.whole_texts.proofs.Own.{own_are_whole, whole_are_own}
use Rattle.whole_texts.proofs.laws.without_deltas.Goals as goal

pub returns-clause-own : goal.returns-clause-own
returns-clause-own c = own_are_whole

pub returns-clause-others : goal.returns-clause-others
returns-clause-others c = whole_are_own
