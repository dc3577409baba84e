use Rattle.dump_load.proofs.Permuted.{effect_permuted}
use Rattle.dump_load.proofs.laws.permuted.Goals as goal

pub returns : goal.returns
returns c = effect_permuted
