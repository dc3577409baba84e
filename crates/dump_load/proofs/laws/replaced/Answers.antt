use Rattle.dump_load.proofs.Reparted.{effect_replaced}
use Rattle.dump_load.proofs.laws.replaced.Goals as goal

pub returns : goal.returns
returns c = effect_replaced
