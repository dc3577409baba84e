use Rattle.sync_core.proofs.Going.{stays-ended, only-ended-ends, ends-well-done}
use Rattle.sync_core.proofs.Nearer.{comes-nearer}
use Rattle.sync_core.proofs.law.jobs_end.Goals as goal

pub returns-clause-ended : goal.returns-clause-ended
returns-clause-ended c = stays-ended

pub returns-clause-only : goal.returns-clause-only
returns-clause-only c = only-ended-ends

pub returns-clause-well : goal.returns-clause-well
returns-clause-well c = ends-well-done

pub returns-clause-nearer : goal.returns-clause-nearer
returns-clause-nearer c = comes-nearer
