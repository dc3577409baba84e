use Rattle.std.proofs.Common.{map}
use Rattle.dump_load.specs.Deltas.{deltas_of}
use Rattle.dump_load.specs.Records.{change_of}
use Rattle.dump_load.proofs.OneSet.{one_set}
use Rattle.dump_load.proofs.laws.one_set.Goals as goal

pub returns : goal.returns
returns c = λ trees rs s t a b. one_set trees (deltas_of rs) (map change_of rs) s t a.set b.set
