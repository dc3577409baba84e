use Rattle.ra_wire.proofs.Limits.{put_read, put_none, not_named}
use Rattle.ra_wire.proofs.props.put_next.Goals as goal

pub returns-in-Ok-clause-read : goal.returns-in-Ok-clause-read
returns-in-Ok-clause-read c = put_read c.put_text.result c.args.props.now c.put_text.new.props c.args.item (c.in-Ok.name, c.in-Ok.text.items) c.in-Ok.ensures.read c.put_text.ensures.read

pub returns-in-Ok-clause-none : goal.returns-in-Ok-clause-none
returns-in-Ok-clause-none c = put_none c.put_text.result c.args.props.now c.args.item (c.in-Ok.name, c.in-Ok.text.items) c.in-Ok.ensures.read c.put_text.ensures.none

pub returns-in-Err-clause-none : goal.returns-in-Err-clause-none
returns-in-Err-clause-none c = rw c.from.ensures (not_named c.args.props.now c.args.item c.in-Err.fault c.in-Err.ensures.none)
