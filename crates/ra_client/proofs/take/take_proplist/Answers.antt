use Rattle.ra_client.specs.Said.{same, proplist_past, proplist_said}
use Rattle.ra_client.proofs.Taking.{within_taken, within_untaken}
use Rattle.ra_client.proofs.take.take_proplist.Goals as goal

pub returns-in-Ok : goal.returns-in-Ok
returns-in-Ok g c = record { taken = within_taken {g = g.I.Input} same proplist_said proplist_past c.args.items.now c.next_item.new.items c.in-Ok.item c.proplist_by.result c.in-Ok.ensures c.proplist_by.ensures.told }

pub returns-in-Err : goal.returns-in-Err
returns-in-Err g c = record { taken = within_untaken {g = g.I.Input} same proplist_said proplist_past c.args.items.now c.next_item.new.items c.in-Err.fault c.in-Err.ensures }
