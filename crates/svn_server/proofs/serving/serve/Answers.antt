use Rattle.fleet_main.proofs.Mirroring.{of_err}
use Rattle.svn_server.proofs.serving.serve.Goals as goal

pub returns-in-Err-clause-refused : goal.returns-in-Err-clause-refused
returns-in-Err-clause-refused g c = λ _. (
  c.in-Err.refusal,
  of_err c.serve_flushed-output.result.1 c.in-Err.refusal _ c.in-Err.is c.serve_flushed-output.ensures.refused,
  c.refused.ensures.line,
)
