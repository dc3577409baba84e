use Rattle.fleet_main.proofs.Mirroring.{of_err}
use Rattle.fleet_main.proofs.execute.run.Goals as goal

pub returns-in-Err-clause-refused : goal.returns-in-Err-clause-refused
returns-in-Err-clause-refused g c = λ _. (
  c.in-Err.refusal,
  of_err c.run_flushed-output.result.1 c.in-Err.refusal _ c.in-Err.is c.run_flushed-output.ensures.refused,
  of_err c.run_flushed-output.result.1 c.in-Err.refusal _ c.in-Err.is c.run_flushed-output.ensures.peer,
  c.refused.ensures.line,
)
