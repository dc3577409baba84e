use Rattle.edit_road.proofs.Kept.{sent_of}
use Rattle.edit_road.proofs.law.set_may_be_sent.Goals as goal

pub returns : goal.returns
returns c = λ none. sent_of c.args.trees.now c.requires.few c.trees_limits.ensures c.args.set.now (record { bounded = c.changes.ensures.bounded; faultless = none })
