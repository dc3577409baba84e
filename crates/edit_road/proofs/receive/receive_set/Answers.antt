use Rattle.editor_ends.specs.Builders.{has_shown, trees_of}
use Rattle.edit_road.proofs.Fetching.{next_edit, received_set, refused_for_memory, refused_over, refused_set}
use Rattle.edit_road.proofs.Kept.{sent_of}
use Rattle.edit_road.proofs.Nested.{makes_tree}
use Rattle.edit_road.proofs.receive.receive_set.Goals as goal

pub returns-in_default-clause-stopped : goal.returns-in_default-clause-stopped
returns-in_default-clause-stopped g c = refused_for_memory c.args.trees.now _ _ _ _ _

pub returns-in-Ok-receive-clause-edit : goal.returns-in-Ok-receive-clause-edit
returns-in-Ok-receive-clause-edit g c = next_edit c.in-Ok.editor c.in-Ok-receive.built _ c.args.trees.now _ _ _ _ c.in-Ok.ensures.new c.in-Ok.ensures.over c.in-Ok-receive.ensures.began c.into_applied.ensures.within c.in-Ok-receive.ensures.received

pub returns-in-Ok-receive-clause-makes : goal.returns-in-Ok-receive-clause-makes
returns-in-Ok-receive-clause-makes g c = makes_tree c.in-Ok.editor c.in-Ok-receive.built _ _ c.args.trees.now _ _ _ _ c.in-Ok.ensures.new c.in-Ok.ensures.over c.in-Ok-receive.ensures.began c.in-Ok-receive.ensures.received c.into_applied.ensures.makes

pub returns-in-Ok-receive-clause-received : goal.returns-in-Ok-receive-clause-received
returns-in-Ok-receive-clause-received g c = received_set c.drive_is_received.ensures _ c.args.trees.now (sent_of c.args.trees.now c.requires.few c.trees_limits.ensures) _ _ _ _ (returns-in-Ok-receive-clause-edit g c)

pub returns-in-Err-clause-stopped : goal.returns-in-Err-clause-stopped
returns-in-Err-clause-stopped g c = refused_over has_shown trees_of c.in-Ok.editor c.args.trees.now _ _ _ _ _ c.in-Err.fault c.in-Ok.ensures.new c.in-Ok.ensures.over c.in-Err.ensures.refused.stops.drive

pub returns-in-Err-clause-refused : goal.returns-in-Err-clause-refused
returns-in-Err-clause-refused g c = refused_set c.drive_is_not_refused.ensures c.args.trees.now (sent_of c.args.trees.now c.requires.few c.trees_limits.ensures) _ _ _ _ _ c.in-Err.fault (returns-in-Err-clause-stopped g c)
