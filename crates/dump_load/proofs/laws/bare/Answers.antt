use Rattle.dump_load.proofs.Bare.{effect_bare, counted_from_below}
use Rattle.dump_load.proofs.laws.bare.Goals as goal

pub returns-clause-dropped : goal.returns-clause-dropped
returns-clause-dropped c = effect_bare

pub returns-clause-below : goal.returns-clause-below
returns-clause-below c = counted_from_below
