use Rattle.browse_wire.specs.Asks.{revprops_as}
use Rattle.ra_log.specs.Entries.{is_other}
use Rattle.ra_log.proofs.Listed.{counted}
use Rattle.ra_log.proofs.revprops.count_others.Goals as goal

pub returns : goal.returns
returns c = counted (is_other (revprops_as c.args.wanted.now)) c.args.entries.now _ _ c.loop-name-test.false c.loop-name.invariant.so_far
