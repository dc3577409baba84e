use Rattle.session_road.proofs.Taken.{edit_heard, edit_unheard}
use Rattle.session_road.proofs.range.take_edit.Goals as goal

pub returns-in-Ok-clause-heard : goal.returns-in-Ok-clause-heard
returns-in-Ok-clause-heard g c = edit_heard {g = g.I.Input} c.args.trees.now c.args.props c.args.items.now c.take_set.new.items c.in-Ok.applied c.in-Ok.ensures.taken

pub returns-in-Ok-clause-later : goal.returns-in-Ok-clause-later
returns-in-Ok-clause-later g c = c.in-Ok.ensures.taken.1.later

pub returns-in-Err-clause-heard : goal.returns-in-Err-clause-heard
returns-in-Err-clause-heard g c = edit_unheard {g = g.I.Input} c.args.trees.now c.args.props c.args.items.now c.take_set.new.items c.in-Err.fault c.in-Err.ensures.taken
