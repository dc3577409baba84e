use Rattle.ra_wire.specs.Params.{left_of}
use Rattle.ra_client.specs.Said.{reply_said}
use Rattle.ra_client.proofs.Limits.{told_behind, untold}
use Rattle.ra_client.proofs.answer.proplist_by.Goals as goal

pub returns-in-Ok : goal.returns-in-Ok
returns-in-Ok c = record { told = told_behind (reply_said c.args.item) (left_of c.in-Ok.content) c.proplist_in.result c.in-Ok.ensures.told c.proplist_in.ensures.told }

pub returns-in-Err : goal.returns-in-Err
returns-in-Err c = record { told = untold (reply_said c.args.item) c.in-Err.fault c.in-Err.ensures.told }
