use Rattle.dump_load.proofs.Walk.{fault-end}
use Rattle.dump_load.proofs.laws.one_more_fault.Goals as goal

pub returns : goal.returns
returns c = fault-end
