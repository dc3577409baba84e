use Rattle.sync_core.proofs.Turns.{shapes-turn}
use Rattle.sync_core.proofs.law.shapes_turn.Goals as goal

pub returns : goal.returns
returns c = shapes-turn
