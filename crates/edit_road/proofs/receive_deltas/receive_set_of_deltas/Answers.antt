use Rattle.edit_road.proofs.Deltas.{deltas_for_memory, makes_of_deltas, next_of_deltas, refused_of_deltas}
use Rattle.edit_road.proofs.receive_deltas.receive_set_of_deltas.Goals as goal

pub returns-in_default-clause-stopped : goal.returns-in_default-clause-stopped
returns-in_default-clause-stopped g c = deltas_for_memory c.args.trees.now _ _ _ _ _

pub returns-in-Ok-receive_deltas-clause-edit : goal.returns-in-Ok-receive_deltas-clause-edit
returns-in-Ok-receive_deltas-clause-edit g c = next_of_deltas c.in-Ok.editor c.in-Ok-receive_deltas.made _ c.args.trees.now _ _ _ _ c.in-Ok.ensures.new c.in-Ok.ensures.over c.in-Ok-receive_deltas.ensures.began c.into_applied.ensures.within c.in-Ok-receive_deltas.ensures.received

pub returns-in-Ok-receive_deltas-clause-makes : goal.returns-in-Ok-receive_deltas-clause-makes
returns-in-Ok-receive_deltas-clause-makes g c = makes_of_deltas c.in-Ok.editor c.in-Ok-receive_deltas.made _ _ c.args.trees.now _ _ _ _ c.in-Ok.ensures.new c.in-Ok.ensures.over c.in-Ok-receive_deltas.ensures.began c.in-Ok-receive_deltas.ensures.received c.into_applied.ensures.makes

pub returns-in-Err-clause-stopped : goal.returns-in-Err-clause-stopped
returns-in-Err-clause-stopped g c = refused_of_deltas c.in-Ok.editor c.args.trees.now _ _ _ _ _ c.in-Err.fault c.in-Ok.ensures.new c.in-Ok.ensures.over c.in-Err.ensures.refused.stops.drive
