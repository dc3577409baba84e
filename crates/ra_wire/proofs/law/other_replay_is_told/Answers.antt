use Rattle.ra_wire.proofs.Judged.{other_replay}
use Rattle.ra_wire.proofs.law.other_replay_is_told.Goals as goal

pub returns : goal.returns
returns c = other_replay
