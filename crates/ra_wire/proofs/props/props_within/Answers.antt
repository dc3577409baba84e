use Rattle.ra_item.specs.Items.{row}
use Rattle.ra_wire.specs.Params.{left_of}
use Rattle.ra_wire.proofs.Limits.{within_read, within_none, not_listed}
use Rattle.ra_wire.proofs.props.props_within.Goals as goal

pub returns-in-Ok-clause-read : goal.returns-in-Ok-clause-read
returns-in-Ok-clause-read c = within_read c.all_props.result (left_of c.args.params.now) (row c.in-Ok.items.items) (left_of c.items.new.self) c.in-Ok.ensures.read c.all_props.ensures.read

pub returns-in-Ok-clause-none : goal.returns-in-Ok-clause-none
returns-in-Ok-clause-none c = within_none c.all_props.result (left_of c.args.params.now) (row c.in-Ok.items.items) (left_of c.items.new.self) c.in-Ok.ensures.read c.all_props.ensures.none

pub returns-in-Err-clause-none : goal.returns-in-Err-clause-none
returns-in-Err-clause-none c = rw c.from.ensures (not_listed (left_of c.args.params.now) c.in-Err.fault c.in-Err.ensures.none)
