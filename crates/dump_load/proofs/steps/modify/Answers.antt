use Rattle.std.proofs.Common.{◌∙◌}
use Rattle.std.proofs.lemmas.Result.{on_ok_weaker}
use Rattle.std.specs.FinMap.{get}
use Rattle.dump_load.proofs.Faultless.{modify_is, text_fits_there, stays_brings_nothing, stays_there}
use Rattle.dump_load.proofs.steps.modify.Goals as goal

pub put-requires-clause-there : goal.put-requires-clause-there
put-requires-clause-there c = stays_there c.args.trees.now (get c.args.tree.now) c.args.change.now c.requires.faultless c.requires.stays

pub put-requires-clause-text : goal.put-requires-clause-text
put-requires-clause-text c = text_fits_there c.args.trees.now (get c.args.tree.now) c.args.change.now c.requires.faultless (stays_brings_nothing c.args.change.now.action c.requires.stays)

pub returns : goal.returns
returns c = on_ok_weaker c.put.result (λ h q. h q ∙ modify_is c.args.trees.now c.args.change.now c.next_number.result c.next_number.ensures (get c.args.tree.now) c.requires.stays q) c.put.ensures
