use Rattle.whole_texts.proofs.Takes.{cant}
use Rattle.whole_texts.proofs.make.whole.Goals as goal

pub returns-in-Err-clause-refused : goal.returns-in-Err-clause-refused
returns-in-Err-clause-refused c = λ rs known. cant c.args.trees.now rs c.args.read c.in-Some.delta c.in-Some.is c.in-Err.fault (c.in-Err.ensures.refused rs known)
