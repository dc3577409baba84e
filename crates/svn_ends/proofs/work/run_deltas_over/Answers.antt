use Rattle.std.proofs.Common.{refl}
use Rattle.svn_ends.specs.Runs.{Unmet, Met}
use Rattle.svn_ends.proofs.Refused.{no_peer}
use Rattle.svn_ends.proofs.work.run_deltas_over.Goals as goal

pub returns-in-Ok-clause-ran : goal.returns-in-Ok-clause-ran
returns-in-Ok-clause-ran g c = Met c.in-Ok.port c.in-Ok.ensures.opened c.run_work.ensures.ran

pub returns-in-Err-clause-ran : goal.returns-in-Err-clause-ran
returns-in-Err-clause-ran g c = Unmet c.refused.result c.in-Err.unopened refl c.in-Err.ensures.opened c.refused.ensures refl refl

pub returns-in-Err-clause-peer : goal.returns-in-Err-clause-peer
returns-in-Err-clause-peer g c = λ p. absurd (no_peer c.in-Err.unopened c.refused.result c.refused.ensures p)

pub returns-in-Ok-clause-unfailed : goal.returns-in-Ok-clause-unfailed
returns-in-Ok-clause-unfailed g c = c.run_work.ensures.output.unfailed

pub returns-in-Ok-clause-peer : goal.returns-in-Ok-clause-peer
returns-in-Ok-clause-peer g c = c.run_work.ensures.output.peer
