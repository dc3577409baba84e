use Rattle.session_road.proofs.Taken.{next_heard, next_unheard, later_on}
use Rattle.session_road.proofs.range.take_next.Goals as goal

pub returns-in-Ok-clause-heard : goal.returns-in-Ok-clause-heard
returns-in-Ok-clause-heard g c = next_heard {g = g.I.Input} c.written_is_taken.ensures c.written_comes.ensures c.args.trees.now c.args.items.now c.take_revprops.new.items c.take_edit.new.items c.in-Ok.props c.take_edit.result c.in-Ok.ensures.taken c.take_edit.ensures.heard

pub returns-in-Ok-clause-later : goal.returns-in-Ok-clause-later
returns-in-Ok-clause-later g c = later_on {g = g.I.Input} c.args.items.now c.take_revprops.new.items c.take_edit.new.items c.take_edit.result c.in-Ok.ensures.taken.1.later c.take_edit.ensures.later

pub returns-in-Err-clause-heard : goal.returns-in-Err-clause-heard
returns-in-Err-clause-heard g c = next_unheard {g = g.I.Input} c.written_is_taken.ensures c.written_comes.ensures c.args.trees.now c.args.items.now c.take_revprops.new.items c.in-Err.fault c.in-Err.ensures.taken
