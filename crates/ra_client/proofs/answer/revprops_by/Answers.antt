use Rattle.ra_client.specs.Said.{revprops_said, revprops_past}
use Rattle.ra_client.proofs.Limits.{not_taken}
use Rattle.ra_client.proofs.answer.revprops_by.Goals as goal

pub returns-in-Err : goal.returns-in-Err
returns-in-Err c = record { told = rw c.from.ensures (not_taken (revprops_past c.args.item) (revprops_said c.args.item) c.in-Err.fault c.in-Err.ensures.none) }
