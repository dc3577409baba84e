use Rattle.dump_load.proofs.Reparted.{effect_reparted}
use Rattle.dump_load.proofs.laws.reparted.Goals as goal

pub returns : goal.returns
returns c = effect_reparted
