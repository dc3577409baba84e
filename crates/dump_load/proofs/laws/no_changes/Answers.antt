use Rattle.dump_load.proofs.Walk.{effect_none}
use Rattle.dump_load.proofs.laws.no_changes.Goals as goal

pub returns : goal.returns
returns c = effect_none
