use Rattle.fleet_main.proofs.Mirroring.{of_err}
use Rattle.fleet_main.proofs.pulling.pull.Goals as goal

pub returns-in-Err-clause-refused : goal.returns-in-Err-clause-refused
returns-in-Err-clause-refused g c = λ _. (
  c.in-Err.refusal,
  of_err c.pull_flushed-output.result.1 c.in-Err.refusal _ c.in-Err.is c.pull_flushed-output.ensures.refused,
  c.refused.ensures.line,
)
