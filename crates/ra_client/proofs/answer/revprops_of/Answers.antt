use Rattle.ra_wire.specs.Params.{left_of}
use Rattle.ra_client.proofs.Limits.{worded_read, worded_unread, not_worded}
use Rattle.ra_client.proofs.answer.revprops_of.Goals as goal

pub returns-in-Ok-clause-read : goal.returns-in-Ok-clause-read
returns-in-Ok-clause-read c = worded_read c.revprops_with.result c.args.item c.in-Ok.word.items (left_of c.in-Ok.parts) c.in-Ok.ensures.read (rw c.as_slice.ensures.value at c.revprops_with.ensures.read)

pub returns-in-Ok-clause-none : goal.returns-in-Ok-clause-none
returns-in-Ok-clause-none c = worded_unread c.revprops_with.result c.args.item c.in-Ok.word.items (left_of c.in-Ok.parts) c.in-Ok.ensures.read (rw c.as_slice.ensures.value at c.revprops_with.ensures.none)

pub returns-in-Err-clause-none : goal.returns-in-Err-clause-none
returns-in-Err-clause-none c = rw c.from.ensures (not_worded c.args.item c.in-Err.fault c.in-Err.ensures.none)
